-- The lookahead of decoders, with byte order marks.
use Rattle.std.proofs.Common.{◌≡◌, ℕ, ◌-◌, ◌≤◌, ◌↔◌, zero, suc, List, [], ◌∷◌, ◌++◌, length, take, drop, Option}
use Rattle.std.proofs.Common.{Some, None, ap, ◌∙◌, sym, subst, arith, ◌⊎◌, inl, inr}
use Rattle.std.proofs.lemmas.List.{length-take-le, take-append-drop, length-drop, append_cancel_left}
use Rattle.enc_decoder.specs.declared.byte_codec.Kind.{Kind}
use Rattle.enc_decoder.specs.declared.byte_codec.Kind.TheVariants.{Valid, Skipped, Malformed, RepeatedEscape}
use Rattle.enc_decoder.specs.Sequence.{Sequence}
use Rattle.enc_decoder.specs.Segmentation.{Rule, sequences_of}
use Rattle.enc_decoder.specs.Remainder.{AreBytes, Determines}
use Rattle.enc_decoder.specs.RuleLaws.{IsDeterminedWithin, IsLookahead, IsDeterminedByEnd}
use Rattle.enc_decoder.specs.Lookahead.{CoverLookahead}
use Rattle.enc_decoder.proofs.ByteLemmas.{bytes-drop}
use Rattle.enc_decoder.proofs.LookaheadLemmas.{left_of, reach_after, determine_if_after, no_more_than, at_most_three}
use Rattle.enc_decoder_single_byte.proofs.ReplacementLemmas.{determined_alone}
use Rattle.enc_decoder_iso_2022_jp.proofs.SkippedEscapes.{looks_after_skipped}
use Rattle.enc_stream.specs.declared.encoding.Encoding.{Encoding}
use Rattle.enc_stream.specs.declared.bom.BomHandling.{BomHandling}
use Rattle.enc_stream.specs.Encodings.{rule_of}
use Rattle.enc_stream.specs.Bom.{Mark, marks_looked_for, find_mark, mark_bytes, mark_sequences}
use Rattle.enc_stream.specs.Bom.{encoding_of_mark_or}
use Rattle.enc_stream.specs.Decoding.{whole_sequences}
use Rattle.enc_stream.specs.MarkLaws.{MayBeginMark, bytes_after_mark}
use Rattle.encoding_rs.specs.Lookahead.{MayLook}
use Rattle.enc_stream.proofs.EncodingLemmas.{lookahead_of}
use Rattle.enc_stream.proofs.FoundMarkLemmas.{found_fits, by_mark}
use Rattle.enc_stream.proofs.MarkFirstLemmas.{undetermined, by_rule, mark_is_decided}

-- by the kind of the sequence

looks_not : (rule : Rule) (set b : ℕ) (z : List ℕ) (n : ℕ) → AreBytes z → IsLookahead rule set b z n
    → IsDeterminedWithin rule set b z 0 → n ≡ 0
looks_not rule set b z n a l t = omega (arith, no_more_than rule set b z n 0 a l t)

some_more : (rule : Rule) (set b : ℕ) (z : List ℕ) (n : ℕ) → IsLookahead rule set b z n
    → (IsDeterminedWithin rule set b z 0 → ⊥) → 1 ≤ n
some_more rule set b z zero l f = absurd (f l.determined)
some_more rule set b z (suc n) l f = omega arith

pub may_look : (e : Encoding) (set b : ℕ) (z : List ℕ) (n : ℕ) → AreBytes z
    → IsLookahead (rule_of e) set b z n → (kind : Kind) → (rule_of e set b z).kind ≡ kind
    → MayLook e kind n
may_look e set b z n are_bytes is_lookahead Valid k =
    looks_not (rule_of e) set b z n are_bytes is_lookahead ((lookahead_of e).valid set b z k)
may_look e set b z n are_bytes is_lookahead Skipped k = (
  at_most_three (rule_of e) (lookahead_of e) set b z n are_bytes is_lookahead,
  (λ r. looks_not (rule_of e) set b z n are_bytes is_lookahead
      (subst (λ (f : Encoding). IsDeterminedWithin (rule_of f) set b z 0) (sym r)
      (determined_alone set b z))),
  (λ j. some_more (rule_of e) set b z n is_lookahead
      (subst (λ (f : Encoding). (rule_of f set b z).kind ≡ Skipped
      → IsDeterminedWithin (rule_of f) set b z 0 → ⊥) (sym j)
      (looks_after_skipped.not_alone set b z) k)),
)
may_look e set b z n are_bytes is_lookahead Malformed k =
    at_most_three (rule_of e) (lookahead_of e) set b z n are_bytes is_lookahead
may_look e set b z n are_bytes is_lookahead RepeatedEscape k =
    at_most_three (rule_of e) (lookahead_of e) set b z n are_bytes is_lookahead

pub looks_or_ends : (e : Encoding) (set b : ℕ) (z : List ℕ)
    → ((n : ℕ) × IsLookahead (rule_of e) set b z n) ⊎ IsDeterminedByEnd (rule_of e) set b z
looks_or_ends e set b z = elim ((lookahead_of e).others set b z) [
  | inl has_lookahead ↦ inl (has_lookahead.0, has_lookahead.2)
  | inr f ↦ inr f
]

-- after the byte order mark

bytes_after : (found : Option Mark) (bytes : List ℕ) → AreBytes bytes
    → AreBytes (bytes_after_mark found bytes)
bytes_after None bytes a = a
bytes_after (Some m) bytes a = bytes-drop (length m.bytes) bytes a

mark_fits : (looked_for : List Mark) (x : List ℕ) (found : Option Mark)
    → find_mark looked_for x ≡ found → length (mark_bytes found) ≤ length x
mark_fits looked_for x None e = omega arith
mark_fits looked_for x (Some m) e = found_fits looked_for x m e

front_after : (found : Option Mark) (bytes : List ℕ) (k : ℕ) → length (mark_bytes found) ≤ k
    → bytes_after_mark found (take k bytes)
    ≡ take (k - length (mark_bytes found)) (bytes_after_mark found bytes)
front_after None bytes k h =
    ap (λ i. take i bytes) (let no_mark : k ≡ k - 0 = omega arith in no_mark)
front_after (Some m) bytes k h = left_of (length m.bytes) k bytes h

length_after : (found : Option Mark) (bytes : List ℕ)
    → length (bytes_after_mark found bytes) ≡ length bytes - length (mark_bytes found)
length_after None bytes = omega arith
length_after (Some m) bytes = length-drop (length m.bytes) bytes

module _ (handling : BomHandling) (e : Encoding) (bytes : List ℕ) (s : Sequence)
    (ss rest : List Sequence) (k : ℕ)
    (whole : whole_sequences handling e bytes
    ≡ mark_sequences (find_mark (marks_looked_for handling e) bytes) ++ ((s ∷ ss) ++ rest))
    (inside : k ≤ length bytes) where
  abbrev looked_for : List Mark
  looked_for = marks_looked_for handling e

  abbrev found : Option Mark
  found = find_mark looked_for bytes

  abbrev rule : Rule
  rule = rule_of (encoding_of_mark_or found e)

  abbrev left : List ℕ
  left = bytes_after_mark found bytes

  abbrev mark_len : ℕ
  mark_len = length (mark_bytes found)

  all : sequences_of rule 0 left ≡ (s ∷ ss) ++ rest
  all = append_cancel_left (mark_sequences found) _ _ (sym (by_mark found e bytes) ∙ whole)

  module _ (mark_decided : MayBeginMark looked_for (take k bytes) → ⊥) where
    same : found ≡ find_mark looked_for (take k bytes)
    same = ap (find_mark looked_for) (sym (take-append-drop k bytes))
        ∙ mark_is_decided looked_for (take k bytes) (drop k bytes) mark_decided

    fits : mark_len ≤ k
    fits =
        let mark_in_front = mark_fits looked_for (take k bytes) found (sym same) in
        let front_len = length-take-le k bytes inside in
        omega (arith, mark_in_front, front_len)

    few : k - mark_len ≤ length left
    few = let left_len = length_after found bytes in omega (arith, left_len, inside)

    by_front : Determines (whole_sequences handling e) (take k bytes)
        (mark_sequences found ++ s ∷ ss)
        ↔ Determines (sequences_of rule 0) (take (k - mark_len) left) (s ∷ ss)
    by_front =
        subst (λ x. Determines (whole_sequences handling e) (take k bytes)
        (mark_sequences found ++ s ∷ ss)
        ↔ Determines (sequences_of rule 0) x
        (s ∷ ss)) (front_after found bytes k fits)
        (by_rule handling e (take k bytes) (s ∷ ss) found same mark_decided)

  undetermined_after : (front : List Sequence) → MayBeginMark looked_for (take k bytes)
      → Determines (whole_sequences handling e) (take k bytes) (front ++ s ∷ ss) → ⊥
  undetermined_after [] begins determined =
      undetermined handling e (take k bytes) s ss begins determined
  undetermined_after (m ∷ front) begins determined =
      undetermined handling e (take k bytes) m (front ++ s ∷ ss) begins determined

  pub determined_whole : AreBytes bytes
      → Determines (whole_sequences handling e) (take k bytes) (mark_sequences found ++ s ∷ ss)
      ↔ ((MayBeginMark looked_for (take k bytes) → ⊥)
      × CoverLookahead rule 0 left (s ∷ ss) (k - mark_len))
  determined_whole are_bytes = (
    (λ determined. let mark_decided : MayBeginMark looked_for (take k bytes)
        → ⊥ = λ i. undetermined_after (mark_sequences found) i determined in (
          mark_decided,
          reach_after rule (lookahead_of (encoding_of_mark_or found e)) (s ∷ ss) rest 0
              (k - mark_len) left
              (bytes_after found bytes are_bytes) all (few mark_decided)
              ((by_front mark_decided).0 determined),
        )),
    (λ both. (by_front both.0).1
        (determine_if_after rule (lookahead_of (encoding_of_mark_or found e)) (s ∷ ss) rest 0
        (k - mark_len) left all (few both.0) both.1)),
  )
