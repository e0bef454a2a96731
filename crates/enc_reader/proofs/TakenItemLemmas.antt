-- Items that are taken in steps.
use Rattle.std.proofs.Common.{◌≡◌, ℕ, ◌+◌, ◌-◌, ◌≤◌, Bool, true, false, List, [], ◌++◌}
use Rattle.std.proofs.Common.{length, take, drop, map, chars, Option, None, Some, refl, ap, ◌∙◌, sym}
use Rattle.std.proofs.Common.{subst, arith}
use Rattle.std.proofs.Common.{append_assoc, length-append}
use Rattle.std.proofs.lemmas.Bool.{false≢true}
use Rattle.std.proofs.lemmas.List.{map-append, length-take, drop-take, drop-drop}
use Rattle.std.proofs.Math.ListN.{length-drop}
use Rattle.std.proofs.lemmas.Str.{chars-append, chars-nil}
use Rattle.std.proofs.KnownBytes.{Consumes-trans, Consumes-nil}
use Rattle.std.specs.declared.result.Result.{Result}
use Rattle.std.specs.Prelude.{Err, IsErrOf}
use Rattle.std.specs.Str.{IsUtf8}
use Rattle.enc_reader.specs.declared.malformed_sequence.MalformedSequence.{MalformedSequence}
use Rattle.enc_reader.specs.declared.position.Position.{Position}
use Rattle.enc_reader.specs.declared.decode_reader.ReadFault.{ReadFault}
use Rattle.enc_reader.specs.declared.decode_reader.ReadFault.TheVariants.{Reader, Failed}
use Rattle.enc_reader.specs.Items.{Item, character_item, items_from}
use Rattle.enc_reader.specs.Reading.{ReaderState, FailsToRead}
use Rattle.enc_reader.specs.Counting.{HasGiven, owed_items}
use Rattle.enc_reader.specs.Reporting.{ReportsItems, part_items, items_if}
use Rattle.enc_reader.specs.Places.{position_after}
use Rattle.enc_reader.specs.Lines.{LineState, TakesItems}
use Rattle.enc_reader.specs.Lines.{FailsToFill, items_to_take}
use Rattle.enc_reader.proofs.CountingLemmas.{passes_none}
use Rattle.enc_reader.proofs.ItemLemmas.{items-append}
use Rattle.enc_reader.proofs.ReportingLemmas.{no_items}
use Rattle.enc_reader.proofs.HeldTextLemmas.{subst_both}
use Rattle.enc_reader.proofs.PlaceLemmas.{position_after-append}

-- the items of a text in parts
pub part_items-append : (front rest : List ℕ) (m : Option MalformedSequence) → IsUtf8 front
    → part_items (front ++ rest) m ≡ map character_item (chars front) ++ part_items rest m
part_items-append front rest m utf_8 =
    ap (λ cs. map character_item cs ++ items_if m) (chars-append front rest utf_8)
    ∙ ap (λ l. l ++ items_if m) (map-append character_item (chars front) (chars rest))
    ∙ append_assoc (map character_item (chars front)) (map character_item (chars rest)) (items_if m)

-- Items are taken in steps.

abbrev pub lines_at : ReaderState → ℕ → List Item → Position → LineState
lines_at reader given held position =
    record { reader = reader; given = given; held = held; position = position }

-- the first items that are held
pub TakesItems-held : (source : Option (List ℕ)) (reader : ReaderState) (count : ℕ)
    (p : Position) (taken rest : List Item)
    → TakesItems source source (lines_at reader count (taken ++ rest) p)
    (lines_at reader count rest (position_after p taken)) taken false
TakesItems-held source reader count p taken rest = record {
  bytes = [];
  given = Consumes-nil source;
  none_after = λ ended. (refl, ended);
  counts = λ _ given has.
      let same : given ≡ given + 0 = omega arith in
      subst (HasGiven count reader) same has;
  passed = λ given has small z ends.
      let same : given ≡ given + 0 = omega arith in
      append_assoc taken rest (owed_items given reader z)
      ∙ ap (λ n. taken ++ (rest ++ owed_items n reader z)) same;
  position = refl;
}

pub TakesItems-none : (source : Option (List ℕ)) (s : LineState)
    → TakesItems source source s s [] false
TakesItems-none source s = TakesItems-held source s.reader s.given s.position [] s.held

module _ {t₀ t₁ t₂ : Option (List ℕ)} {a b c : LineState} where
  unfoldable pub TakesItems-then : {v w : List Item} {lost : Bool} → TakesItems t₀ t₁ a b v false
      → TakesItems t₁ t₂ b c w lost → TakesItems t₀ t₂ a c (v ++ w) lost
  TakesItems-then {v = v} {w = w} first others = record {
    bytes = first.bytes ++ others.bytes;
    given = Consumes-trans t₀ t₁ t₂ first.bytes others.bytes first.given others.given;
    none_after = λ ended.
        let one = first.none_after ended in
        let two = others.none_after one.1 in
        (ap (λ l. l ++ others.bytes) one.0 ∙ two.0, two.1);
    counts = λ going given has.
        let sum = count given in
        subst (HasGiven c.given c.reader) sum
        (others.counts going (given + length first.bytes) (first.counts refl given has));
    passed = λ given has small z ends.
        let sum = count given in
        let before_end : b.reader.ended ≡ true → others.bytes ++ z ≡ [] = λ ended.
        let two = others.none_after ended in
        ap (λ l. l ++ z) two.0 ∙ ends two.1 in
        ap (items_to_take given a) (append_assoc first.bytes others.bytes z)
        ∙ first.passed given has (omega (arith, small, length-append first.bytes others.bytes))
        (others.bytes ++ z) before_end
        ∙ ap (λ l. v ++ l) (others.passed (given + length first.bytes)
        (first.counts refl given has)
        (omega (arith, small, length-append first.bytes others.bytes)) z ends)
        ∙ sym (append_assoc v w
        (items_to_take (given + length first.bytes + length others.bytes) c z))
        ∙ ap (λ n. (v ++ w) ++ items_to_take n c z) sum;
    position = others.position ∙ ap (λ p. position_after p w) first.position
        ∙ sym (position_after-append a.position v w);
  }
    where
      count : (given : ℕ) → given + length first.bytes + length others.bytes
          ≡ given + length (first.bytes ++ others.bytes)
      count given = omega (arith, length-append first.bytes others.bytes)

-- Once the source is lost, nothing is counted.
pub TakesItems-lost : {t₀ t₁ : Option (List ℕ)} {a b : LineState} {v : List Item}
    → TakesItems t₀ t₁ a b v false → TakesItems t₀ t₁ a b v true
TakesItems-lost takes = record {
  bytes = takes.bytes;
  given = takes.given;
  none_after = takes.none_after;
  counts = λ no. absurd (false≢true (sym no));
  passed = takes.passed;
  position = takes.position;
}

-- Nothing is held before a read.
module _ {t₀ t₁ : Option (List ℕ)} {old new : ReaderState} {n₀ n₁ : ℕ} (held now : List Item)
    (none : held ≡ []) where
  -- It hands out a text and the malformed sequence after it.
  pub TakesItems-reported : {text : List ℕ} {m : Option MalformedSequence}
      {had_before had_after : Bool} (p : Position) → now ≡ part_items text m
      → ReportsItems t₀ t₁ old new n₀ n₁ text m had_before had_after
      → TakesItems t₀ t₁ (lines_at old n₀ held p) (lines_at new n₁ now p) [] false
  TakesItems-reported p is_now reported = record {
    bytes = reported.hands_out.bytes;
    given = reported.hands_out.reads.given;
    none_after = reported.hands_out.reads.none_after;
    counts = λ _. reported.counts;
    passed = λ given has small z ends.
        ap (λ h. h ++ owed_items given old (reported.hands_out.bytes ++ z)) none
        ∙ reported.passed given has small z ends
        ∙ ap (λ h. h ++ owed_items (given + length reported.hands_out.bytes) new z) (sym is_now);
    position = refl;
  }

  -- It fails.
  pub FailsToFill-reader : {failed_before failed_after : Bool} {fault : ReadFault} (p : Position)
      → now ≡ [] → FailsToRead t₀ t₁ failed_before failed_after old new
      → FailsToFill t₀ t₁ (lines_at old n₀ held p) (lines_at new n₁ now p) failed_before
      failed_after fault
  FailsToFill-reader p none_now fails = record {
    takes = record {
      bytes = fails.bytes;
      given = fails.reads.given;
      none_after = fails.reads.none_after;
      counts = λ no. absurd (false≢true (sym no));
      passed = λ given has small z ends.
          ap (λ h. h ++ owed_items given old (fails.bytes ++ z)) none
          ∙ passes_none items_from items-append fails.reads (no_items fails.reads) given has.among
          z ends
          ∙ ap (λ h. h ++ owed_items (given + length fails.bytes) new z) (sym none_now);
      position = refl;
    };
    loses = λ _. record {
      none_held = none_now;
      none_determined = fails.none_determined;
      not_before = fails.not_before;
      why = fails.why;
    };
  }

-- Nothing is held, and the reader has failed before.
pub FailsToFill-before : (t : Option (List ℕ)) (s : ReaderState) (n : ℕ) (failed : Bool)
    (p : Position) (held now : List Item) → held ≡ [] → now ≡ []
    → FailsToFill t t (lines_at s n held p) (lines_at s n now p) failed failed Failed
FailsToFill-before t s n failed p held now none none_now = record {
  takes = subst_both (λ h k. TakesItems t t (lines_at s n h p) (lines_at s n k p) [] true)
      (sym none) (sym none_now) (TakesItems-lost (TakesItems-none t (lines_at s n [] p)));
  loses = λ is_reader. cc;
}

-- a fault of a reader is one of two
pub by_read_fault : {T : Type 0} (P : ReadFault → Type 0) (r : Result T ReadFault)
    (e : ReadFault) → r ≡ Err e → (IsErrOf r Reader → P Reader) → (IsErrOf r Failed → P Failed)
    → P e
by_read_fault P r Reader is reader failed = reader is
by_read_fault P r Failed is reader failed = failed is

-- the same items (field by field, so that the bytes given are those before)
unfoldable pub TakesItems-same : {t₀ t₁ : Option (List ℕ)} {a b : LineState} {v w : List Item}
    {lost : Bool}
    → v ≡ w → TakesItems t₀ t₁ a b v lost → TakesItems t₀ t₁ a b w lost
TakesItems-same {a = a} {b = b} same takes = record {
  bytes = takes.bytes;
  given = takes.given;
  none_after = takes.none_after;
  counts = takes.counts;
  passed = λ given has small z ends.
      takes.passed given has small z ends
      ∙ ap (λ l. l ++ items_to_take (given + length takes.bytes) b z) same;
  position = takes.position ∙ ap (position_after a.position) same;
}

-- nothing is held
pub none_held : (text : List ℕ) (n : ℕ) (m : Option MalformedSequence) → n ≡ 0 → m ≡ None
    → part_items (take n text) m ≡ []
none_held text n m none unreported =
    rw (none, unreported) (ap (λ cs. map character_item cs ++ []) chars-nil)

-- a malformed sequence alone is held
pub malformed_held : (text : List ℕ) (n : ℕ) (m : MalformedSequence) → n ≡ 0
    → part_items (take n text) (Some m) ≡ items_if (Some m)
malformed_held text n m none =
    rw none (ap (λ cs. map character_item cs ++ items_if (Some m)) chars-nil)

-- text that is held, as it is taken

pub held_len : (text : List ℕ) (at filled : ℕ) → filled ≤ length text
    → length (take (filled - at) (drop at text)) ≡ filled - at
held_len text at filled within =
    omega (arith, within, length-take (filled - at) (drop at text), length-drop at text)

pub rest_held : (text : List ℕ) (at filled len : ℕ) → at + len ≤ filled
    → drop len (take (filled - at) (drop at text))
    ≡ take (filled - (at + len)) (drop (at + len) text)
rest_held text at filled len within =
    let left = filled - (at + len) in
    let long : filled - at ≡ len + left = omega (arith, within) in
    ap (λ n. drop len (take n (drop at text))) long
    ∙ drop-take len left (drop at text) ∙ ap (take left) (drop-drop len at text)
