-- Texts are Unicode scalar values.
use Rattle.std.proofs.Common.{ℕ, ◌<◌, All, get_or, ◌&&◌, true, List, [], ◌∷◌, ◌++◌, refl, ap, ◌∙◌, arith}
use Rattle.std.proofs.lemmas.Bool.{and_parts}
use Rattle.std.proofs.lemmas.List.Elements.{All-tail}
use Rattle.std.proofs.Math.Utf8.{low_scalar}
use Rattle.std.specs.Char.{IsScalar}
use Rattle.std.specs.Str.{all_scalars}
use Rattle.enc_utf8.specs.Text.{AreScalars}
use Rattle.enc_utf8.specs.Validity.{AreAscii}

pub one_scalar : (c : ℕ) → IsScalar c → AreScalars (c ∷ [])
one_scalar c h = ap (λ t. t && true) h

pub scalars-cons : (c : ℕ) (cs : List ℕ) → IsScalar c → AreScalars cs → AreScalars (c ∷ cs)
scalars-cons c cs h k = ap (λ t. t && all_scalars cs) h ∙ k

pub scalars-append : (cs ds : List ℕ) → AreScalars cs → AreScalars ds → AreScalars (cs ++ ds)
scalars-append [] ds h others_are = others_are
scalars-append (c ∷ cs) ds h others_are =
    let scalar_parts = and_parts _ _ h in
    scalars-cons c (cs ++ ds) scalar_parts.0 (scalars-append cs ds scalar_parts.1 others_are)

pub scalars_are : (us : List ℕ) → All IsScalar us → AreScalars us
scalars_are [] are = refl
scalars_are (u ∷ us) are =
    scalars-cons u us (are 0 0 (omega arith)) (scalars_are us (All-tail IsScalar u us are))

-- numbers below U+0800 are scalar values
pub short_scalars : (us : List ℕ) → All (λ u. u < 0x800) us → AreScalars us
short_scalars us are_short = scalars_are us (λ k d h.
    low_scalar (get_or us k d) (let is_short = are_short k d h in omega arith))

-- ASCII bytes are scalar values
pub ascii_scalars : (bs : List ℕ) → AreAscii bs → AreScalars bs
ascii_scalars bs are_ascii =
    short_scalars bs (λ k d h. let is_ascii = are_ascii k d h in omega arith)
