-- Text that is held between two calls: taking it, and lines of it.
use Rattle.std.proofs.Common.{◌≡◌, ℕ, ◌+◌, ◌-◌, ◌<◌, ◌≤◌, inl, inr, Bool, true, false, ◌||◌, List, [], ◌++◌}
use Rattle.std.proofs.Common.{length, take, drop, Option, Some, None, IfSome, refl, ap, ◌∙◌, sym, subst, arith}
use Rattle.std.proofs.Common.{append_assoc, append-nil, if◌then◌else◌, take-append-drop}
use Rattle.std.proofs.Common.{nat_lt, ltb-true, ltb-false, take_all, take_at, get_or}
use Rattle.std.proofs.Math.ListN.{length-drop}
use Rattle.std.proofs.lemmas.List.{length-take, nil_from_length}
use Rattle.std.specs.declared.result.Result.{Result}
use Rattle.std.specs.Prelude.{Err, IsErrOf}
use Rattle.std.specs.Char.{encode_utf8}
use Rattle.std.specs.Str.{IsUtf8, IsCharBoundary}
use Rattle.std.proofs.lemmas.Str.{IsUtf8-take, IsUtf8-drop, IsCharBoundary-after_ascii, IsCharBoundary-from_take}
use Rattle.enc_decoder.proofs.FirstSequenceLemmas.{true_or_false}
use Rattle.std.specs.Io.{StartsWith}
use Rattle.std.specs.Io.KnownBytes.{Consumes, Keeps, IsAtEnd}
use Rattle.enc_utf8.specs.Text.{units_of_text}
use Rattle.enc_decoder.specs.Sequence.{Sequence, sequence_text}
use Rattle.enc_decoder.proofs.SequenceLemmas.{units-append, or_false, or_assoc}
use Rattle.enc_reader.specs.declared.decode_reader.ReadFault.{ReadFault}
use Rattle.enc_reader.specs.declared.decode_reader.ReadFault.TheVariants as fault
use Rattle.enc_reader.specs.Source.{IsExhausted}
use Rattle.enc_reader.specs.Reading.{ReaderState, HandsOut, FailsToRead, owed_sequences}
use Rattle.enc_reader.specs.declared.decoded_text.DecodedText.{DecodedText}
use Rattle.enc_reader.specs.Reader.{state_of}
use Rattle.enc_reader.specs.HeldText.{TextState, TakesText, IsTextAtEnd, owed_text, remaining_text}
use Rattle.enc_reader.specs.HeldText.{text_state_of}
use Rattle.enc_reader.proofs.SourceLemmas.{at_end}
use Rattle.enc_reader.proofs.ReadingLemmas.{reader_at, ReadsOwed-none, ReadsOwed-then}

-- the length of the text of a read
pub handed_length : (lent : Bool) (len at : ℕ) (input dst : List ℕ) → at ≤ length input
    → len ≤ (if lent then at else length dst)
    → length (if lent then take len (drop (at - len) input) else take len dst) ≡ len
handed_length true len at input dst within at_hand = omega (
  arith,
  within,
  at_hand,
  length-take len (drop (at - len) input),
  length-drop (at - len) input,
)
handed_length false len at input dst within at_hand = omega (arith, at_hand, length-take len dst)

-- the text of which `taken` bytes are taken
module _ (lent : Bool) (len at taken : ℕ) (input dst : List ℕ) (within : at ≤ length input)
    (at_hand : len ≤ (if lent then at else length dst)) where
  abbrev handed : List ℕ
  handed = if lent then take len (drop (at - len) input) else take len dst

  pub held_length : length (drop taken handed) ≡ len - taken
  held_length = omega (
    arith,
    length-drop taken handed,
    handed_length lent len at input dst within at_hand,
  )

  pub none_held : len ≤ taken → drop taken handed ≡ []
  none_held all = nil_from_length (drop taken handed) (omega (arith, all, held_length))

-- a fault of a reader is one of two
pub by_fault : {T : Type 0} {P : Type 0} (r : Result T ReadFault) (e : ReadFault) → r ≡ Err e
    → (IsErrOf r fault.Reader → P) → (IsErrOf r fault.Failed → P) → P
by_fault r fault.Reader is reader failed = reader is
by_fault r fault.Failed is reader failed = failed is

-- a reader, the text that is held for it, and whether it had errors
abbrev pub holding : ReaderState → List ℕ → Bool → TextState
holding reader held had = record { reader = reader; held = held; had_errors = had }

pub TakesText-none : (source : Option (List ℕ)) (s : TextState) → TakesText source source s s []
TakesText-none source s = record {
  bytes = [];
  text = [];
  malformed = false;
  reads = ReadsOwed-none source s.reader;
  held = append-nil s.held;
  flag = sym (or_false s.had_errors);
}

pub TakesText-then : {t₀ t₁ t₂ : Option (List ℕ)} {a b c : TextState} {v w : List ℕ}
    → TakesText t₀ t₁ a b v → TakesText t₁ t₂ b c w → TakesText t₀ t₂ a c (v ++ w)
TakesText-then {t₀ = t₀} {t₁ = t₁} {t₂ = t₂} {a = a} {b = b} {c = c} {v = v} {w = w} first others =
    record {
      bytes = first.bytes ++ others.bytes;
      text = first.text ++ others.text;
      malformed = first.malformed || others.malformed;
      reads = ReadsOwed-then (reader_at t₀ a.reader) (reader_at t₁ b.reader)
          (reader_at t₂ c.reader) first.reads others.reads;
      held = sym (append_assoc a.held first.text others.text)
          ∙ ap (λ l. l ++ others.text) first.held
          ∙ append_assoc v b.held others.text
          ∙ ap (λ l. v ++ l) others.held
          ∙ sym (append_assoc v w c.held);
      flag = others.flag ∙ ap (λ m. m || others.malformed) first.flag
          ∙ or_assoc a.had_errors first.malformed others.malformed;
    }

-- the first bytes that are held
pub TakesText-held : (source : Option (List ℕ)) (s : ReaderState) (held : List ℕ) (had : Bool)
    (n : ℕ)
    → TakesText source source (holding s held had) (holding s (drop n held) had) (take n held)
TakesText-held source s held had n = record {
  bytes = [];
  text = [];
  malformed = false;
  reads = ReadsOwed-none source s;
  held = append-nil held ∙ sym (take-append-drop n held);
  flag = sym (or_false had);
}

-- nothing is held, and nothing is read
pub TakesText-same : (source : Option (List ℕ)) (s : ReaderState) (held : List ℕ) (had : Bool)
    → held ≡ [] → TakesText source source (holding s held had) (holding s [] had) []
TakesText-same source s held had none = record {
  bytes = [];
  text = [];
  malformed = false;
  reads = ReadsOwed-none source s;
  held = append-nil held ∙ none;
  flag = sym (or_false had);
}

-- The text of a read is held, where none was held before.
pub TakesText-handed : {t₀ t₁ : Option (List ℕ)} {a b : ReaderState} {text : List ℕ}
    {had_before had_after : Bool} (held : List ℕ) → held ≡ []
    → HandsOut t₀ t₁ a b text had_before had_after
    → TakesText t₀ t₁ (holding a held had_before) (holding b text had_after) []
TakesText-handed {text = text} held none hands_out = record {
  bytes = hands_out.bytes;
  text = text;
  malformed = hands_out.malformed;
  reads = hands_out.reads;
  held = ap (λ l. l ++ text) none;
  flag = hands_out.flag;
}

-- a read that fails, where none was held before
pub TakesText-fails : {t₀ t₁ : Option (List ℕ)} {failed_before failed_after : Bool}
    {a b : ReaderState} {had_before had_after : Bool} (held : List ℕ) → held ≡ []
    → FailsToRead t₀ t₁ failed_before failed_after a b → had_after ≡ had_before
    → TakesText t₀ t₁ (holding a held had_before) (holding b [] had_after) []
TakesText-fails {had_before = had_before} held none fails same = record {
  bytes = fails.bytes;
  text = [];
  malformed = false;
  reads = fails.reads;
  held = append-nil held ∙ none;
  flag = same ∙ sym (or_false had_before);
}

-- Where the source models its bytes, the text to come loses what is taken.

abbrev text_of : List Sequence → List ℕ
text_of ss = units_of_text encode_utf8 (sequence_text ss)

pub takes_known : (t₀ t₁ : Option (List ℕ)) (a b : TextState) (w : List ℕ)
    → TakesText t₀ t₁ a b w → (b.reader.ended ≡ true → IsExhausted t₁)
    → Consumes (remaining_text t₀ a) (remaining_text t₁ b) w
takes_known None t₁ a b w takes exhausted = tt
takes_known (Some x) None a b w takes exhausted = absurd takes.reads.given
takes_known (Some x) (Some z) a b w takes exhausted =
    let owed = text_of (owed_sequences b.reader z) in
    let whole : owed_text a (takes.bytes ++ z) ≡ w ++ owed_text b z =
    ap (λ ss. a.held ++ text_of ss)
    (takes.reads.residual z (λ ended. at_end (Some z) (exhausted ended)))
    ∙ ap (λ l. a.held ++ l)
    (units-append encode_utf8 takes.reads.done (owed_sequences b.reader z))
    ∙ sym (append_assoc a.held (text_of takes.reads.done) owed)
    ∙ ap (λ l. (a.held ++ l) ++ owed) (sym takes.reads.text)
    ∙ ap (λ l. l ++ owed) takes.held
    ∙ append_assoc w b.held owed in
    ap (owed_text a) takes.reads.given ∙ whole

pub keeps_known : (p q : Option (List ℕ)) → Consumes p q [] → Keeps p q
keeps_known None q consumes = tt
keeps_known (Some x) None consumes = absurd consumes
keeps_known (Some x) (Some y) consumes = sym consumes

-- At the end of the text no byte of it is to come.
pub known_end : (t : Option (List ℕ)) (s : TextState) → IsTextAtEnd t s
    → IsAtEnd (remaining_text t s)
known_end None s at_the_end = tt
known_end (Some z) s at_the_end =
    ap (λ h. h ++ text_of (owed_sequences s.reader z)) at_the_end.none_held
    ∙ ap (λ y. text_of (owed_sequences s.reader y)) at_the_end.reader.exhausted
    ∙ ap text_of at_the_end.reader.none_owed

-- what holds of all bytes holds where they are known
pub if_known : {P : List ℕ → Type 0} (known : Option (List ℕ)) → ((xs : List ℕ) → P xs)
    → IfSome known P
if_known None holds = tt
if_known (Some xs) holds = holds xs

-- The text that is held comes first, and is empty only at the end.

pub known_front : (known source : Option (List ℕ)) (s : TextState) (shown : List ℕ)
    → Keeps known (remaining_text source s) → shown ≡ s.held
    → IfSome known (λ xs. StartsWith xs shown)
known_front None source s shown keeps is_held = tt
known_front (Some xs) None s shown keeps is_held = absurd keeps
known_front (Some xs) (Some z) s shown keeps is_held =
    let rest = text_of (owed_sequences s.reader z) in
    ap (take (length shown)) (sym keeps) ∙ ap (λ l. take (length l) (s.held ++ rest)) is_held
    ∙ take_at s.held rest (length s.held) refl ∙ sym is_held

pub known_none : (known source : Option (List ℕ)) (s : TextState) (shown : List ℕ)
    → Keeps known (remaining_text source s) → shown ≡ s.held
    → (s.held ≡ [] → IsTextAtEnd source s)
    → IfSome known (λ xs. length shown ≡ 0 → xs ≡ [])
known_none None source s shown keeps is_held at_end_if = tt
known_none (Some xs) None s shown keeps is_held at_end_if = absurd keeps
known_none (Some xs) (Some z) s shown keeps is_held at_end_if = λ none.
    sym keeps
    ∙ known_end (Some z) s (at_end_if (sym is_held ∙ nil_from_length shown none))

-- the state after text is taken, by the reader and the text that is held
pub state_moved : {T : Type 0} {S : _} (mid new : DecodedText T S) {h : List ℕ}
    → new.reader ≡ mid.reader → (text_state_of new).held ≡ h
    → holding (state_of mid.reader) h mid.reader.had_errors ≡ text_state_of new
state_moved mid new {h = h} same_reader held =
    ap (λ l. holding (state_of mid.reader) l mid.reader.had_errors) (sym held)
    ∙ ap (λ r. holding (state_of r) (text_state_of new).held r.had_errors) (sym same_reader)

pub subst_both : {X Y : Type 0} (P : X → Y → Type 0) {x₀ x₁ : X} {y₀ y₁ : Y} → x₀ ≡ x₁ → y₀ ≡ y₁
    → P x₀ y₀ → P x₁ y₁
subst_both P {x₁ = x₁} {y₀ = y₀} e k holds = subst (P x₁) k (subst (λ x. P x y₀) e holds)

-- Whole characters, up to and with a line feed or the end, and the characters after them.
pub parts_utf_8 : (held : List ℕ) (len : ℕ) → IsUtf8 held → 0 < len → len ≤ length held
    → (len < length held → get_or held (len - 1) 0 ≡ 10)
    → IsUtf8 (take len held) × IsUtf8 (drop len held)
parts_utf_8 held len utf_8 some within ends =
    let front : IsUtf8 (take len held) = elim (true_or_false (nat_lt len (length held))) [
      | inl more ↦ (
          let feed = ends (ltb-true len (length held) more) in
          let place : len - 1 + 1 ≡ len = omega (arith, some) in
          IsUtf8-take held len utf_8
          (subst (IsCharBoundary held) place
          (IsCharBoundary-after_ascii held (len - 1) utf_8 (omega (arith, some, within))
          (omega (arith, feed)))))
      | inr all ↦ subst IsUtf8
          (sym (take_all len held (ltb-false len (length held) all))) utf_8
    ] in
    (front, IsUtf8-drop held len utf_8 (IsCharBoundary-from_take held len utf_8 within front))
