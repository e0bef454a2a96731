-- UTF-16 that is written as UTF-8.
use Rattle.std.proofs.Common.{◌≡◌, ℕ, ◌+◌, ◌-◌, ◌≤◌, List, [], ◌∷◌, ◌++◌, length, take, drop, refl, ap, ◌∙◌, sym}
use Rattle.std.proofs.Common.{arith, append_assoc, append-nil, drop-drop}
use Rattle.std.proofs.Common.{take-append-drop, take-add}
use Rattle.std.proofs.lemmas.List.{take-take}
use Rattle.std.specs.Char.{IsScalar, encode_utf8}
use Rattle.std.specs.Char.Utf16.{utf16_lossy_chars}
use Rattle.enc_utf8.proofs.LengthLemmas.{lengths}
use Rattle.enc_input.specs.Mappings.{AreAnyUnits, AreWrittenAsUtf8, WritesFront}
use Rattle.enc_utf8.specs.Text.{AreScalars, units_of_text}
use Rattle.enc_utf8.specs.Surrogates.{IsFirstUtf16Char}
use Rattle.enc_input.specs.Utf16Text.{AreUtf8OfUnits}
use Rattle.enc_utf8.proofs.UnitsLemmas.{lossy_scalars, units-append}
use Rattle.enc_input.proofs.MappingLemmas.{maps_utf8}
use Rattle.enc_utf8.proofs.PutLemmas.{Put}
use Rattle.enc_utf8.proofs.ScalarLemmas.{one_scalar, scalars-append}

-- characters that are read, and their UTF-8

-- characters one after another, in a buffer
pub text_stored : {us before bytes after : List ℕ} {a n : ℕ} → AreUtf8OfUnits us a before
    → AreUtf8OfUnits (drop a us) n bytes → after ≡ before ++ bytes → AreUtf8OfUnits us (a + n) after
text_stored {us} {bytes = bytes} {a = a} {n = n} first others stored = record {
  within = omega (arith, lengths, first.within, others.within);
  text = first.text ++ others.text;
  scalars = scalars-append first.text others.text first.scalars others.scalars;
  reads = first.reads ∙ rw (others.reads, drop-drop n a us, append_assoc) refl;
  written = stored ∙ ap (λ z. z ++ bytes) first.written
      ∙ rw (others.written, units-append encode_utf8 first.text others.text) refl;
}

-- the first n code units of m, where none is a surrogate
text_units : (m n : ℕ) {us units : List ℕ} → n ≤ m → m ≤ length us → units ≡ take m us
    → AreScalars (take n units)
    → AreUtf8OfUnits us n (units_of_text encode_utf8 (take n units))
text_units m n {us} {units} few long are_units are_scalars =
    let front : take n units ≡ take n us = ap (take n) are_units ∙ take-take n m us few in
    record {
      within = omega arith;
      text = take n units;
      scalars = are_scalars;
      reads = ap utf16_lossy_chars (sym (take-append-drop n us))
          ∙ ap (λ z. utf16_lossy_chars (z ++ drop n us)) (sym front)
          ∙ lossy_scalars (take n units) (drop n us) are_scalars;
      written = refl;
    }

pub text_one : {us : List ℕ} {c n : ℕ} → IsFirstUtf16Char us c n → IsScalar c
    → AreUtf8OfUnits us n (encode_utf8 c)
text_one {us} {c} {n} first is_scalar = record {
  within = first.within;
  text = c ∷ [];
  scalars = one_scalar c is_scalar;
  reads = first.chars;
  written = sym (append-nil (encode_utf8 c));
}

-- eight code units and eight more
pub sixteen_units : (a : ℕ) (us : List ℕ)
    → take 8 (drop a us) ++ take 8 (drop (a + 8) us) ≡ take 16 (drop a us)
sixteen_units a us =
    ap (λ z. take 8 (drop a us) ++ take 8 z) (sym (drop-drop 8 a us))
    ∙ sym (take-add 8 8 (drop a us))

-- in a buffer, those of one code unit each
pub text_then_units : (n : ℕ) {us units before after : List ℕ} {a : ℕ}
    → AreUtf8OfUnits us a before → n ≤ 16 → 16 ≤ length us - a → units ≡ take 16 (drop a us)
    → AreScalars (take n units)
    → after ≡ before ++ units_of_text encode_utf8 (take n units) → AreUtf8OfUnits us (a + n) after
text_then_units n {us} {a = a} first few long are_units are_scalars stored =
    text_stored first (text_units 16 n few (omega (arith, lengths)) are_units are_scalars)
    stored

-- they are written to a slice
pub writes_text : {Means : List ℕ → ℕ → Type 0} {us bytes before after : List ℕ} {at n k : ℕ}
    → AreWrittenAsUtf8 Means → AreUtf8OfUnits us n bytes → Put at k before bytes after
    → WritesFront utf16_lossy_chars AreAnyUnits Means us before after at n k
writes_text utf8 text put = record {
  within = text.within;
  rest = tt;
  writes = maps_utf8 utf8 text.text text.scalars text.reads text.written put;
}
