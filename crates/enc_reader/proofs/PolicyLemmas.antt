-- Escaped bytes.
use Rattle.std.proofs.Common.{◌≡◌, ℕ, ◌+◌, ◌<◌, ◌≤◌, zero, suc, List, [], ◌∷◌, ◌++◌, length, take, refl, ap, ◌∙◌, sym}
use Rattle.std.proofs.Common.{arith, append_assoc, length-append, get_or, length-take-le, take_at}
use Rattle.std.specs.Char.{encode_utf8}
use Rattle.std.specs.Str.{IsAscii}
use Rattle.std.proofs.lemmas.Str.{encodes-IsAscii}
use Rattle.enc_utf8.specs.Text.{units_of_text}
use Rattle.enc_utf8.proofs.UnitsLemmas.{their_units}
use Rattle.enc_reader.specs.Policies.{escaped, escaped_byte}

pub escaped-append : (xs ys : List ℕ) → escaped (xs ++ ys) ≡ escaped xs ++ escaped ys
escaped-append [] ys = refl
escaped-append (x ∷ xs) ys =
    ap (λ l. escaped_byte x ++ l) (escaped-append xs ys)
    ∙ sym (append_assoc (escaped_byte x) (escaped xs) (escaped ys))

one_more : (xs : List ℕ) (n m : ℕ) → m ≡ suc n → n < length xs
    → take m xs ≡ take n xs ++ (get_or xs n 0 ∷ [])
one_more [] n m is within = absurd (omega (arith, within))
one_more (x ∷ xs) zero m is within = rw is refl
one_more (x ∷ xs) (suc n) m is within =
    rw is (ap (λ l. x ∷ l) (one_more xs n (suc n) refl (omega (arith, within))))

-- one byte more
pub escaped-next : (bytes : List ℕ) (at : ℕ) → at < length bytes
    → escaped (take (at + 1) bytes) ≡ escaped (take at bytes) ++ escaped_byte (get_or bytes at 0)
escaped-next bytes at within =
    ap escaped (one_more bytes at (at + 1) (omega arith) within)
    ∙ escaped-append (take at bytes) (get_or bytes at 0 ∷ [])

-- ASCII is its own bytes
pub units-ascii : (text : List ℕ) → IsAscii text → units_of_text encode_utf8 text ≡ text
units-ascii text ascii = their_units text ∙ encodes-IsAscii text ascii

-- the front of a slice of which a part is written
pub front_written : (room bytes rest : List ℕ) (n : ℕ) → n ≤ length room
    → take (n + length bytes) (take n room ++ (bytes ++ rest)) ≡ take n room ++ bytes
front_written room bytes rest n within =
    ap (take (n + length bytes)) (sym (append_assoc (take n room) bytes rest))
    ∙ take_at (take n room ++ bytes) rest (n + length bytes)
    (omega (arith, length-append (take n room) bytes, length-take-le n room within))
