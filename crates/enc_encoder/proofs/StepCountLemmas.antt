-- How many steps a text has, and how many bytes the first of them.
use Rattle.std.proofs.Common.{ℕ, ◌+◌, ◌*◌, ◌≤◌, Bool, true, false, Option, Some, None, List, [], ◌∷◌, ◌++◌, length}
use Rattle.std.proofs.Common.{arith, length-append, if◌then◌else◌}
use Rattle.enc_encoder.specs.declared.character_set.CharacterSet.{CharacterSet}
use Rattle.enc_encoder.specs.declared.character_set.CharacterSet.TheVariants.{Ascii}
use Rattle.enc_encoder.specs.EncoderRule.{EncoderRule, IsLawfulEncoderRule, AreAtMostFour, set_for}
use Rattle.enc_encoder.specs.Steps.{Step, escape_step, char_step, first_written_char, escape_steps_before, steps_at_end}
use Rattle.enc_encoder.specs.Steps.{steps_of}

one_at_end : (s : CharacterSet) → length (steps_at_end s) ≤ 1
one_at_end Ascii = omega arith
one_at_end _ = omega arith

one_before : (has : Bool) (x : CharacterSet) → length (if has then [] else escape_step x ∷ []) ≤ 1
one_before true x = omega arith
one_before false x = omega arith

-- two for each character at most, an escape sequence and the character, and one at the end
pub few_steps : (e : EncoderRule) (last : Bool) (t : List ℕ) (s : CharacterSet)
    → length (steps_of e last s t) ≤ 2 * length t + 1
unfolding steps_of
few_steps e true [] s = omega (arith, one_at_end s)
few_steps e false [] s = omega arith
few_steps e last (c ∷ t) s =
    let first_char = first_written_char c (e.bytes c) in
    let others = char_step e (set_for e s first_char) c (e.bytes c)
    ∷ steps_of e last (set_for e s first_char) t in
    let escape = one_before (e.has s first_char) (e.designated first_char) in
    let all = length-append (escape_steps_before e s first_char) others in
    omega (arith, escape, all, few_steps e last t (set_for e s first_char))

-- the bytes of the first step
abbrev pub first_bytes : List Step → ℕ
first_bytes [] = 0
first_bytes (p ∷ ps) = length p.bytes

few_at_end : (s : CharacterSet) → first_bytes (steps_at_end s) ≤ 4
few_at_end Ascii = omega arith
few_at_end _ = omega arith

few_in_escape : (x : CharacterSet) → first_bytes (escape_step x ∷ []) ≤ 4
few_in_escape Ascii = omega arith
few_in_escape _ = omega arith

few_in_first : (e : EncoderRule) (s x : CharacterSet) (c : ℕ) (has : Bool) (b : Option (List ℕ))
    (ps : List Step)
    → AreAtMostFour b
    → first_bytes ((if has then [] else escape_step x ∷ []) ++ (char_step e s c b ∷ ps)) ≤ 4
few_in_first e s x c true None ps few = omega arith
few_in_first e s x c true (Some b) ps few = few
few_in_first e s x c false b ps few = few_in_escape x

-- it has four at most
pub first_few : (e : EncoderRule) → IsLawfulEncoderRule e
    → (last : Bool) (s : CharacterSet) (t : List ℕ) → first_bytes (steps_of e last s t) ≤ 4
unfolding steps_of
first_few e l true s [] = few_at_end s
first_few e l false s [] = omega arith
first_few e l last s (c ∷ t) =
    let first_char = first_written_char c (e.bytes c) in
    few_in_first e (set_for e s first_char) (e.designated first_char) c (e.has s first_char)
    (e.bytes c) (steps_of e last (set_for e s first_char) t) (l.few c)
