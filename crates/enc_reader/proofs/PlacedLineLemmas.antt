-- Lines that grow by items that are taken.
use Rattle.std.proofs.Common.{◌≡◌, ◌≢◌, ℕ, ◌+◌, ◌-◌, ◌<◌, ◌≤◌, inl, inr, Bool, true, false, List, [], ◌∷◌, ◌++◌}
use Rattle.std.proofs.Common.{length, take, map, chars, All, Option, None, Some, refl, ap, ◌∙◌, sym}
use Rattle.std.proofs.Common.{subst, arith}
use Rattle.std.proofs.Common.{append_assoc, append-nil, length-append, string_bytes, get_or, nat_eq, eqb-true}
use Rattle.std.proofs.Common.{eq-eqb, take_all}
use Rattle.std.proofs.Common.{if◌then◌else◌}
use Rattle.std.proofs.lemmas.Bool.{cases_lt}
use Rattle.std.proofs.lemmas.Bool.{false≢true}
use Rattle.std.proofs.lemmas.List.{map-append}
use Rattle.std.proofs.lemmas.List.Elements.{All-nil, All-cons, All-append, All-more}
use Rattle.std.proofs.lemmas.Str.{IsCharBoundary-after_ascii, IsCharBoundary-end}
use Rattle.enc_decoder.proofs.FirstSequenceLemmas.{true_or_false}
use Rattle.std.specs.Char.{encode_utf8}
use Rattle.std.specs.declared.result.Result.{Result}
use Rattle.std.specs.Prelude.{Ok, Err, IfErr}
use Rattle.std.specs.Str.{IsUtf8, IsCharBoundary}
use Rattle.enc_utf8.specs.Text.{units_of_text}
use Rattle.enc_decoder.proofs.SequenceLemmas.{units_of_text-append}
use Rattle.enc_reader.specs.declared.malformed_policy.MalformedPolicy.{MalformedPolicy}
use Rattle.enc_reader.specs.declared.malformed_policy.MalformedPolicy.TheVariants.{Report}
use Rattle.enc_reader.specs.declared.line.PlacedSequence.{PlacedSequence}
use Rattle.enc_reader.specs.declared.malformed_sequence.MalformedSequence.{MalformedSequence}
use Rattle.enc_reader.specs.declared.position.Position.{Position}
use Rattle.enc_reader.specs.declared.line.Line.{Line}
use Rattle.enc_reader.specs.declared.line_reader_fault.LineReaderFault.{LineReaderFault}
use Rattle.enc_reader.specs.declared.line_reader_fault.LineReaderFault.TheVariants.{Read, Memory, Malformed}
use Rattle.enc_reader.specs.declared.decode_reader.ReadFault.{ReadFault}
use Rattle.enc_reader.specs.declared.decode_reader.ReadFault.TheVariants.{Reader}
use Rattle.enc_reader.specs.Items.{Item, character_item, malformed_item}
use Rattle.enc_reader.specs.Reading.{ReaderState}
use Rattle.enc_reader.specs.Reporting.{part_items, items_if, malformed_bytes}
use Rattle.enc_reader.specs.Places.{position_after, start_of_next_line, after_character, placed, placed_of}
use Rattle.enc_reader.specs.Policies.{text_by, text_of_malformed}
use Rattle.enc_reader.specs.Lines.{LineState, TakesItems, AppendsItems, SameLine, IsNoFeed, TakesPart}
use Rattle.enc_reader.specs.Lines.{ReadsLine, StopsLine, FailsToFill}
use Rattle.enc_reader.specs.Lines.{item_of_fault, AreLinesAtEnd}
use Rattle.enc_reader.proofs.HeldTextLemmas.{subst_both}
use Rattle.enc_reader.proofs.PlaceLemmas.{position_after-append, placed-append, text_by-append}
use Rattle.enc_reader.proofs.PlaceLemmas.{placed-text, text_by-text, none-text, units-chars}
use Rattle.enc_reader.proofs.PlaceLemmas.{no_feed-text, IsLine-text, position-line}
use Rattle.enc_reader.proofs.TakenItemLemmas.{part_items-append, lines_at, TakesItems-held, TakesItems-none}
use Rattle.enc_reader.proofs.TakenItemLemmas.{TakesItems-then, TakesItems-same}

-- Lines grow in steps.

pub AppendsItems-none : (policy : MalformedPolicy) (p : Position) {before after : Line}
    → SameLine before after → AppendsItems policy p before after []
AppendsItems-none policy p same = record {
  text = same.text ∙ sym (append-nil _);
  malformed = ap (map placed_of) same.malformed ∙ sym (append-nil _);
  none_passed = λ _. All-nil (λ item. item.malformed ≡ None);
}

pub SameLine-self : (line : Line) → SameLine line line
SameLine-self line = record { text = refl; malformed = refl }

module _ {policy : MalformedPolicy} {p : Position} {a b c : Line} where
  pub AppendsItems-then : {v w : List Item} → AppendsItems policy p a b v
      → AppendsItems policy (position_after p v) b c w → AppendsItems policy p a c (v ++ w)
  AppendsItems-then {v = v} {w = w} first others = record {
    text = others.text ∙ ap (λ l. l ++ units_of_text encode_utf8 (text_by policy w)) first.text
        ∙ append_assoc (string_bytes a.text) (units_of_text encode_utf8 (text_by policy v))
        (units_of_text encode_utf8 (text_by policy w))
        ∙ ap (λ l. string_bytes a.text ++ l)
        (sym (units_of_text-append encode_utf8 (text_by policy v) (text_by policy w))
        ∙ ap (units_of_text encode_utf8) (sym (text_by-append policy v w)));
    malformed = others.malformed
        ∙ ap (λ l. l ++ placed (position_after p v) w) first.malformed
        ∙ append_assoc (map placed_of a.malformed.items) (placed p v)
        (placed (position_after p v) w)
        ∙ ap (λ l. map placed_of a.malformed.items ++ l) (sym (placed-append p v w));
    none_passed = λ reports. All-append (λ item. item.malformed ≡ None) v w
        (first.none_passed reports) (others.none_passed reports);
  }

-- a text in UTF-8
pub AppendsItems-text : (policy : MalformedPolicy) (p : Position) {before after : Line}
    (text : List ℕ) → IsUtf8 text → string_bytes after.text ≡ string_bytes before.text ++ text
    → after.malformed ≡ before.malformed
    → AppendsItems policy p before after (map character_item (chars text))
AppendsItems-text policy p {before = before} text utf_8 grown same = record {
  text = grown ∙ ap (λ l. string_bytes before.text ++ l)
      (sym (units-chars text utf_8)
      ∙ ap (units_of_text encode_utf8) (sym (text_by-text policy (chars text))));
  malformed = ap (λ m. map placed_of m.items) same ∙ sym (append-nil _)
      ∙ ap (λ l. map placed_of before.malformed.items ++ l) (sym (placed-text p (chars text)));
  none_passed = λ _. none-text (chars text);
}

-- A line so far, without a line feed.
pub record HasTakenPart (policy : MalformedPolicy) (t₀ t₁ : Option (List ℕ)) (old new : LineState)
    (before after : Line) (some : Bool) : Type 0 where
  pub taken : List Item
  pub takes : TakesItems t₀ t₁ old new taken false
  pub appends : AppendsItems policy old.position before after taken
  pub no_feed : All IsNoFeed taken
  pub any : some ≡ true → taken ≢ []
  pub none : some ≡ false → taken ≡ []

pub HasTakenPart-none : (policy : MalformedPolicy) (t : Option (List ℕ)) (s : LineState)
    (line : Line) → HasTakenPart policy t t s s line line false
HasTakenPart-none policy t s line = record {
  taken = [];
  takes = TakesItems-none t s;
  appends = AppendsItems-none policy s.position (SameLine-self line);
  no_feed = All-nil IsNoFeed;
  any = λ no. absurd (false≢true no);
  none = λ _. refl;
}

not_nil-append : (v w : List Item) → w ≢ [] → v ++ w ≢ []
not_nil-append [] w some = some
not_nil-append (x ∷ v) w some = λ none. absurd (omega (arith, ap length none))

-- what is appended stands where the line so far ends
module _ {policy : MalformedPolicy} {t₀ t₁ : Option (List ℕ)} {a b : LineState} {l₀ l₁ : Line}
    {some : Bool} (so_far : HasTakenPart policy t₀ t₁ a b l₀ l₁ some) where
  moved : {l₂ : Line} {w : List Item} → AppendsItems policy b.position l₁ l₂ w
      → AppendsItems policy (position_after a.position so_far.taken) l₁ l₂ w
  moved {l₂ = l₂} {w = w} appends =
      subst (λ p. AppendsItems policy p l₁ l₂ w) so_far.takes.position appends

module _ {policy : MalformedPolicy} {t₀ t₁ t₂ : Option (List ℕ)} {a b c : LineState} where
  module _ {l₀ l₁ l₂ : Line} {some : Bool} where
    pub HasTakenPart-then : HasTakenPart policy t₀ t₁ a b l₀ l₁ some
        → TakesPart policy t₁ t₂ b c l₁ l₂ false → HasTakenPart policy t₀ t₂ a c l₀ l₂ true
    HasTakenPart-then so_far part = record {
      taken = so_far.taken ++ part.taken;
      takes = TakesItems-then so_far.takes part.takes;
      appends = AppendsItems-then so_far.appends (moved so_far part.appends);
      no_feed = All-append IsNoFeed so_far.taken part.taken so_far.no_feed (part.part refl);
      any = λ _. not_nil-append so_far.taken part.taken part.some;
      none = λ no. absurd (false≢true (sym no));
    }

    pub ReadsLine-line : HasTakenPart policy t₀ t₁ a b l₀ l₁ some
        → TakesPart policy t₁ t₂ b c l₁ l₂ true → ReadsLine policy t₀ t₂ a c l₀ l₂ true
    ReadsLine-line so_far part =
        let line = part.line refl in
        record {
          taken = so_far.taken ++ part.taken;
          takes = TakesItems-then so_far.takes part.takes;
          appends = AppendsItems-then so_far.appends (moved so_far part.appends);
          whole = inl (record {
            before = so_far.taken ++ line.before;
            feed = line.feed;
            parts = ap (λ l. so_far.taken ++ l) line.parts
                ∙ sym (append_assoc so_far.taken line.before (line.feed ∷ []));
            no_feed = All-append IsNoFeed so_far.taken line.before so_far.no_feed line.no_feed;
            is_feed = line.is_feed;
          });
          any = λ _. not_nil-append so_far.taken part.taken part.some;
          none = λ no. absurd (false≢true (sym no));
        }

    pub ReadsLine-end : HasTakenPart policy t₀ t₁ a b l₀ l₁ some
        → TakesItems t₁ t₂ b c [] false → AreLinesAtEnd t₂ c → l₂ ≡ l₁
        → ReadsLine policy t₀ t₂ a c l₀ l₂ some
    ReadsLine-end so_far nothing at_end same_line =
        let same : so_far.taken ++ [] ≡ so_far.taken = append-nil so_far.taken in
        let takes = TakesItems-then so_far.takes nothing in
        record {
          taken = so_far.taken;
          takes = TakesItems-same same takes;
          appends = subst (λ l. AppendsItems policy a.position l₀ l so_far.taken) (sym same_line)
              so_far.appends;
          whole = inr (so_far.no_feed, at_end);
          any = so_far.any;
          none = so_far.none;
        }

    pub StopsLine-then : {failed failed_before failed_after : Bool} {fault : LineReaderFault}
        → HasTakenPart policy t₀ t₁ a b l₀ l₁ some → failed ≡ failed_before
        → StopsLine policy t₁ t₂ b c l₁ l₂ failed failed_after fault
        → StopsLine policy t₀ t₂ a c l₀ l₂ failed_before failed_after fault
    unfolding TakesItems-same TakesItems-then
    StopsLine-then {failed_after = failed_after} {fault = fault} so_far same stops =
        let all = append_assoc so_far.taken stops.taken (item_of_fault fault) in
        let takes = TakesItems-then so_far.takes stops.takes in
        record {
          taken = so_far.taken ++ stops.taken;
          takes = TakesItems-same (sym all) takes;
          appends = AppendsItems-then so_far.appends (moved so_far stops.appends);
          no_feed = All-append IsNoFeed so_far.taken stops.taken so_far.no_feed stops.no_feed;
          place = stops.place
              ∙ ap (λ p. placed (position_after p stops.taken) (item_of_fault fault))
              so_far.takes.position
              ∙ ap (λ p. placed p (item_of_fault fault))
              (sym (position_after-append a.position so_far.taken stops.taken));
          loses = λ is_read.
              let lost = stops.loses is_read in
              record {
                none_held = lost.none_held;
                none_determined = lost.none_determined;
                not_before = sym same ∙ lost.not_before;
                why = elim lost.why [
                  | inl failed_now ↦ inl failed_now
                  | inr many ↦ inr (omega (
                    arith,
                    many,
                    length-append so_far.takes.bytes stops.takes.bytes,
                  ))
                ];
              };
        }

-- The parts of a line.

-- A line ends between two characters.
pub line_boundary : (held : List ℕ) (len : ℕ) → IsUtf8 held → 0 < len → len ≤ length held
    → (len < length held → get_or held (len - 1) 0 ≡ 10) → IsCharBoundary held len
line_boundary held len utf_8 some within ends = elim (cases_lt len (length held)) [
  | inl more ↦ (
      let feed = ends more in
      let place : len - 1 + 1 ≡ len = omega (arith, some) in
      subst (IsCharBoundary held) place
      (IsCharBoundary-after_ascii held (len - 1) utf_8 (omega (arith, some, within))
      (omega (arith, feed))))
  | inr all ↦ (
      let same : length held ≡ len = omega (arith, all, within) in
      subst (IsCharBoundary held) same (IsCharBoundary-end held))
]

no_items_no_chars : (cs : List ℕ) → map character_item cs ≡ [] → cs ≡ []
no_items_no_chars [] none = refl
no_items_no_chars (c ∷ cs) none = absurd (omega (arith, ap length none))

-- a text that has a line feed at most at its end
module _ (front : List ℕ) (utf_8 : IsUtf8 front) (some : 0 < length front)
    (none : All (λ b. b ≢ 10) (take (length front - 1) front)) where
  long : length front ≡ length front - 1 + 1
  long = omega (arith, some)

  some_items : map character_item (chars front) ≢ []
  some_items none_there =
      let no_chars : chars front ≡ [] = no_items_no_chars (chars front) none_there in
      let empty : front ≡ [] =
      sym (units-chars front utf_8) ∙ ap (units_of_text encode_utf8) no_chars in
      absurd (omega (arith, some, ap length empty))

  part_of : get_or front (length front - 1) 0 ≢ 10
      → All IsNoFeed (map character_item (chars front))
  part_of other =
      let before : All (λ b. b ≢ 10) (take (length front - 1 + 1) front) =
      All-more (λ b. b ≢ 10) front (length front - 1) 0 (omega (arith, some)) none other in
      no_feed-text front utf_8
      (subst (All (λ b. b ≢ 10)) (take_all (length front - 1 + 1) front (omega (arith, long)))
      before)

-- text that is held, up to and with its first line feed, or all
module _ (policy : MalformedPolicy) (t : Option (List ℕ)) (reader : ReaderState) (count : ℕ)
    (p : Position) (held front rest : List ℕ) (parts : held ≡ front ++ rest) where
  pub TakesPart-text : (q : Position) {before after : Line} (m : Option MalformedSequence)
      (is_line : Bool) → IsUtf8 front → 0 < length front
      → All (λ b. b ≢ 10) (take (length front - 1) front)
      → is_line ≡ nat_eq (get_or front (length front - 1) 0) 10
      → string_bytes after.text ≡ string_bytes before.text ++ front
      → after.malformed ≡ before.malformed
      → q ≡ (if is_line then start_of_next_line p else position_after p
      (map character_item (chars front)))
      → TakesPart policy t t (lines_at reader count (part_items held m) p)
      (lines_at reader count (part_items rest m) q) before after is_line
  TakesPart-text q m is_line utf_8 some none is grown same place =
      let items = map character_item (chars front) in
      let last = length front - 1 in
      let after_items : q ≡ position_after p items = elim (true_or_false is_line) [
        | inl line ↦ place ∙ (rw line refl)
            ∙ sym (position-line front last utf_8 (long front utf_8 some none)
            (eqb-true _ _ (sym is ∙ line)) none p)
        | inr part ↦ place ∙ (rw part refl)
      ] in
      record {
        taken = items;
        takes = subst_both
            (λ h k. TakesItems t t (lines_at reader count h p)
            (lines_at reader count (part_items rest m) k) items false)
            (sym (ap (λ l. part_items l m) parts ∙ part_items-append front rest m utf_8))
            (sym after_items) (TakesItems-held t reader count p items (part_items rest m));
        appends = AppendsItems-text policy p front utf_8 grown same;
        some = some_items front utf_8 some none;
        line = λ line. IsLine-text front last utf_8 (long front utf_8 some none)
            (eqb-true _ _ (sym is ∙ line)) none;
        part = λ part. part_of front utf_8 some none
            (λ feed. false≢true (sym part ∙ is ∙ eq-eqb _ _ feed));
      }

-- a malformed sequence that is held, where no text is held before it
module _ (policy : MalformedPolicy) (t : Option (List ℕ)) (reader : ReaderState) (count : ℕ)
    (p : Position) (found : PlacedSequence) (place : found.position ≡ p) where
  placed_there : placed_of found ∷ [] ≡ placed p (items_if (Some found.sequence))
  placed_there = ap (λ q. record {
    offset = found.sequence.offset;
    bytes = malformed_bytes found.sequence;
    position = q;
  } ∷ []) place

  module _ (held now : List Item) (is_held : held ≡ items_if (Some found.sequence))
      (none_now : now ≡ []) where
    passes : TakesItems t t (lines_at reader count held p)
        (lines_at reader count now (after_character p 0xFFFD)) (items_if (Some found.sequence))
        false
    passes = subst_both
        (λ h k. TakesItems t t (lines_at reader count h p)
        (lines_at reader count k (after_character p 0xFFFD)) (items_if (Some found.sequence)) false)
        (sym is_held) (sym none_now)
        (TakesItems-held t reader count p (items_if (Some found.sequence)) [])

    pub StopsLine-reported : (line : Line) (failed : Bool)
        → StopsLine policy t t (lines_at reader count held p)
        (lines_at reader count now (after_character p 0xFFFD)) line line failed failed
        (Malformed found)
    StopsLine-reported line failed = record {
      taken = [];
      takes = passes;
      appends = AppendsItems-none policy p (SameLine-self line);
      no_feed = All-nil IsNoFeed;
      place = placed_there;
      loses = λ is_read. cc;
    }

    pub TakesPart-malformed : {before after : Line} → string_bytes after.text
        ≡ string_bytes before.text
        ++ units_of_text encode_utf8 (text_of_malformed policy (malformed_bytes found.sequence))
        → after.malformed.items ≡ before.malformed.items ++ found ∷ [] → policy ≢ Report
        → TakesPart policy t t (lines_at reader count held p)
        (lines_at reader count now (after_character p 0xFFFD)) before after false
    TakesPart-malformed {before = before} grown pushed not_reported = record {
      taken = items_if (Some found.sequence);
      takes = passes;
      appends = record {
        text = grown ∙ ap (λ l. string_bytes before.text ++ units_of_text encode_utf8 l)
            (sym (append-nil (text_of_malformed policy (malformed_bytes found.sequence))));
        malformed = ap (map placed_of) pushed
            ∙ map-append placed_of before.malformed.items (found ∷ [])
            ∙ ap (λ l. map placed_of before.malformed.items ++ l) placed_there;
        none_passed = λ reports. absurd (not_reported reports);
      };
      some = λ none. absurd (omega (arith, ap length none));
      line = λ no. absurd (false≢true no);
      part = λ _. All-cons IsNoFeed (malformed_item found.sequence.offset (malformed_bytes
          found.sequence)) [] (λ feed. absurd (omega (arith, feed))) (All-nil IsNoFeed);
    }

-- The next part of a line, after a read.
module _ {policy : MalformedPolicy} {t₀ t₁ : Option (List ℕ)} {a b : LineState}
    (filled : TakesItems t₀ t₁ a b [] false) where
  pub HasTakenPart-filled : (line : Line) → HasTakenPart policy t₀ t₁ a b line line false
  HasTakenPart-filled line = record {
    taken = [];
    takes = filled;
    appends = AppendsItems-none policy a.position (SameLine-self line);
    no_feed = All-nil IsNoFeed;
    any = λ no. absurd (false≢true no);
    none = λ _. refl;
  }

  pub TakesPart-after : {t₂ : Option (List ℕ)} {c : LineState} {l₀ l₁ : Line} {is_line : Bool}
      → TakesPart policy t₁ t₂ b c l₀ l₁ is_line → TakesPart policy t₀ t₂ a c l₀ l₁ is_line
  TakesPart-after {l₀ = l₀} {l₁ = l₁} part = record {
    taken = part.taken;
    takes = TakesItems-then filled part.takes;
    appends = subst (λ p. AppendsItems policy p l₀ l₁ part.taken) filled.position part.appends;
    some = part.some;
    line = part.line;
    part = part.part;
  }

  pub StopsLine-memory : {c : LineState} {l₀ l₁ : Line} {failed_before failed_after : Bool}
      → c ≡ b → SameLine l₀ l₁
      → StopsLine policy t₀ t₁ a c l₀ l₁ failed_before failed_after Memory
  StopsLine-memory same same_line = record {
    taken = [];
    takes = subst (λ s. TakesItems t₀ t₁ a s [] false) (sym same) filled;
    appends = AppendsItems-none policy a.position same_line;
    no_feed = All-nil IsNoFeed;
    place = refl;
    loses = λ is_read. cc;
  }

pub StopsLine-fill : {policy : MalformedPolicy} {t₀ t₁ : Option (List ℕ)} {a b : LineState}
    {failed_before failed_after : Bool} {fault : ReadFault} (line : Line)
    → FailsToFill t₀ t₁ a b failed_before failed_after fault
    → StopsLine policy t₀ t₁ a b line line failed_before failed_after (Read fault)
StopsLine-fill {policy = policy} {a = a} {fault = fault} line fails = record {
  taken = [];
  takes = fails.takes;
  appends = AppendsItems-none policy a.position (SameLine-self line);
  no_feed = All-nil IsNoFeed;
  place = refl;
  loses = λ is_read. fails.loses (let same : fault ≡ Reader = cc in same);
}

-- what holds of each error
pub if_err : {T : Type 0} {E : Type 0} {P Q : E → Type 0} (r : Result T E) → IfErr r P
    → ((e : E) → P e → Q e) → IfErr r Q
if_err (Ok x) holds next = tt
if_err (Err e) holds next = next e holds
