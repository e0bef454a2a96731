-- What a call needs, by what it does.
use Rattle.enc_output.proofs.OverwrittenTextLemmas.{is_text}
use Rattle.std.proofs.Common.{◌↔◌}
use Rattle.std.proofs.Common.{◌≡◌, ◌⊎◌, ℕ, ◌+◌, ◌<◌, ◌≤◌, Bool, true, false, cond, ◌||◌, List, [], ◌∷◌, ◌++◌}
use Rattle.std.proofs.Common.{length, drop, refl, ap, ◌∙◌, sym, arith, subst, append_assoc, inl, inr}
use Rattle.std.proofs.lemmas.List.{append-nil, length-append}
use Rattle.std.proofs.Math.ListN.{drop_of_length-le}
use Rattle.std.proofs.lemmas.Bool.{false≢true, cond-true, cond-false}
use Rattle.enc_output.specs.declared.decoder_result.DecoderResult.{DecoderResult}
use Rattle.enc_output.specs.declared.decoder_result.DecoderResult.TheVariants.{InputEmpty, OutputFull, Malformed}
use Rattle.enc_output.specs.declared.decoder_result.DecoderResult.TheVariants as stop
use Rattle.enc_utf8.specs.Text.{units_of_text}
use Rattle.enc_decoder.specs.Sequence.{Sequence, is_malformed, any_malformed, sequence_text}
use Rattle.enc_decoder.specs.Remainder.{Remainder, AreFirstSequences, Determines, AreDetermined}
use Rattle.enc_decoder.specs.declared.error_mode.ErrorMode.{ErrorMode}
use Rattle.enc_decoder.specs.declared.error_mode.ErrorMode.TheVariants.{Replacement, Fatal}
use Rattle.enc_decoder.specs.Call.{is_replacement_mode, IsCall, DecoderStops}
use Rattle.enc_decoder.specs.Need.{sequences_before_malformed, needed_sequences, needed_units, NeedExceeds}
use Rattle.enc_decoder.specs.Need.{MeetsDecodeNeed}
use Rattle.enc_decoder.specs.CallRecord.{Call}
use Rattle.enc_decoder.proofs.SequenceLemmas.{units-append}
use Rattle.enc_decoder.proofs.DeterminedLemmas.{determines_fewer, determined_at, LeavesOff, determined_after}
use Rattle.enc_decoder.proofs.DeterminedLemmas.{determined_past}

-- of two lists that begin a third, one begins the other

pub begin_alike : (a b all : List Sequence) → AreFirstSequences a all → AreFirstSequences b all
    → AreFirstSequences a b ⊎ ((s : Sequence) × (rest : List Sequence) × (a ≡ b ++ s ∷ rest))
begin_alike [] b all first also_first = inl (b, refl)
begin_alike (s ∷ a) [] all first also_first = inr (s, a, refl)
begin_alike (s ∷ a) (t ∷ b) [] first also_first = absurd (let begins_with_s = first.1 in cc)
begin_alike (s ∷ a) (t ∷ b) (u ∷ all) first also_first =
    let all_from_s = first.1 in
    let all_from_t = also_first.1 in
    elim (begin_alike a b all (first.0, (cc)) (also_first.0, (cc))) [
      | inl begins ↦ inl (begins.0, (let rest_is = begins.1 in cc))
      | inr remain ↦ inr (remain.0, remain.1, (let rest_is = remain.2 in cc))
    ]

-- the units that sequences need which follow one another

module _ (units_of : ℕ → List ℕ) where
  abbrev pub units : List Sequence → ℕ
  units ss = length (units_of_text units_of (sequence_text ss))

  pub units-both : (ss ts : List Sequence) → units (ss ++ ts) ≡ units ss + units ts
  units-both ss ts = ap length (units-append units_of ss ts)
      ∙ length-append (units_of_text units_of (sequence_text ss))
      (units_of_text units_of (sequence_text ts))

  longer_if : (t : Bool) (s : Sequence) (x p q : List Sequence) → units p ≤ units q
      → units (cond t x (s ∷ p)) ≤ units (cond t x (s ∷ q))
  longer_if true s x p q h = omega arith
  longer_if false s x p q h = omega (arith, h, units-both (s ∷ []) p, units-both (s ∷ []) q)

  before_more : (ss ts : List Sequence)
      → units (sequences_before_malformed ss) ≤ units (sequences_before_malformed (ss ++ ts))
  before_more [] ts = omega arith
  before_more (s ∷ ss) ts = longer_if (is_malformed s.kind) s _ _ _ (before_more ss ts)

  -- more sequences need no less
  pub needed_more : (mode : ErrorMode) (ss ts : List Sequence)
      → needed_units units_of mode ss ≤ needed_units units_of mode (ss ++ ts)
  needed_more Replacement ss ts = omega (arith, units-both ss ts)
  needed_more Fatal ss ts = before_more ss ts

either_false : (a b : Bool) → (a || b) ≡ false → (a ≡ false) × (b ≡ false)
either_false true b neither = absurd (false≢true (sym neither))
either_false false b neither = (refl, neither)

-- after sequences that are not malformed
before_clean : (ss ts : List Sequence) → any_malformed ss ≡ false
    → sequences_before_malformed (ss ++ ts) ≡ ss ++ sequences_before_malformed ts
before_clean [] ts n = refl
before_clean (s ∷ ss) ts n =
    let both_valid = either_false (is_malformed s.kind) (any_malformed ss) n in
    cond-false _ _ _ both_valid.0 ∙ ap (λ x. s ∷ x) (before_clean ss ts both_valid.1)

pub needed_clean : (mode : ErrorMode) (ss ts : List Sequence)
    → (is_replacement_mode mode ≡ false → any_malformed ss ≡ false)
    → needed_sequences mode (ss ++ ts) ≡ ss ++ needed_sequences mode ts
needed_clean Replacement ss ts n = refl
needed_clean Fatal ss ts n = before_clean ss ts (n refl)

-- determined sequences come first

pub at_end : (last : Bool) (remaining : List ℕ → List Sequence) (x : List ℕ) (ss : List Sequence)
    → AreDetermined last remaining x ss → AreFirstSequences ss (remaining x)
at_end true remaining x ss are_determined = are_determined
at_end false remaining x ss are_determined =
    subst (λ y. AreFirstSequences ss (remaining y)) (append-nil x) (are_determined [] tt)

-- a sequence that is not to be reported is needed
one_needed : (mode : ErrorMode) (s : Sequence)
    → (is_replacement_mode mode ≡ false → is_malformed s.kind ≡ false)
    → needed_sequences mode (s ∷ []) ≡ s ∷ []
one_needed Replacement s not_reported = refl
one_needed Fatal s not_reported = cond-false _ _ _ (not_reported refl)

none_needed : (units_of : ℕ → List ℕ) (mode : ErrorMode) → needed_units units_of mode [] ≡ 0
none_needed units_of Replacement = refl
none_needed units_of Fatal = refl

module _ (units_of : ℕ → List ℕ) where
  pub units-one : (s : Sequence) (text : List ℕ) → s.text ≡ text
      → units units_of (s ∷ []) ≡ length (units_of_text units_of text)
  units-one s text is_text =
      ap (λ t. length (units_of_text units_of t)) (append-nil s.text ∙ is_text)

  -- from one that is reported on nothing is needed
  reported_need : (mode : ErrorMode) (s : Sequence) (ts : List Sequence)
      → is_malformed s.kind ≡ true → is_replacement_mode mode ≡ false
      → needed_units units_of mode (s ∷ ts) ≡ 0
  reported_need Replacement s ts malformed fatal = absurd (false≢true (sym fatal))
  reported_need Fatal s ts malformed fatal =
      ap (units units_of) (cond-true _ _ _ malformed)

module _ {units_of : ℕ → List ℕ} {old new : Remainder} (c : Call)
    (call : IsCall units_of old new c) where
  abbrev rest : List ℕ
  rest = drop c.read c.src

  -- the number of code units that sequences need, and those that are put out
  abbrev need : List Sequence → ℕ
  need ss = needed_units units_of c.mode ss

  abbrev put_units : ℕ
  put_units = units units_of call.put

  abbrev Exceeds : ℕ → Type 0
  Exceeds n = NeedExceeds units_of c.mode old c.src c.last n

  none_malformed : is_replacement_mode c.mode ≡ false → any_malformed call.put ≡ false
  none_malformed fatal = sym call.flag ∙ call.none_replaced fatal

  done_determined : AreDetermined c.last old.sequences c.src call.done
  done_determined = determined_at c.last old.sequences c.src call.done
      (λ z ends. (_, call.residual z ends))

  -- `after` is what the sequences after those done need
  module _ (after : List Sequence → ℕ)
      (needed : (ts : List Sequence) → need (call.done ++ ts) ≡ put_units + after ts) where
    passes : (n : ℕ) → n < put_units + after [] → Exceeds n
    passes n fewer = record {
      sequences = call.done;
      determined = done_determined;
      more = omega (arith, fewer, needed [], ap need (append-nil call.done));
    }

    reaches : (n : ℕ) → n < put_units → Exceeds n
    reaches n fewer = passes n (omega (arith, fewer))

    -- determined sequences are some of those done, or go on after them
    compared : (n : ℕ) → Exceeds n → (n < put_units + after [])
        ⊎ ((s : Sequence) × (ts : List Sequence)
        × AreDetermined c.last old.sequences c.src (call.done ++ s ∷ ts)
        × (n < put_units + after (s ∷ ts)))
    compared n exceeds = elim (begin_alike exceeds.sequences call.done (old.sequences c.src)
        (at_end c.last old.sequences c.src exceeds.sequences exceeds.determined)
        (at_end c.last old.sequences c.src call.done done_determined)) [
          | inl fewer ↦ inl (omega (
            arith,
            exceeds.more,
            needed_more units_of c.mode exceeds.sequences fewer.0,
            ap need fewer.1,
            needed [],
            ap need (append-nil call.done),
          ))
          | inr more ↦ inr (
            more.0,
            more.1,
            subst (AreDetermined c.last old.sequences c.src) more.2 exceeds.determined,
            omega (arith, exceeds.more, ap need more.2, needed (more.0 ∷ more.1)),
          )
        ]

  needed_past : (ts : List Sequence) → need (call.put ++ ts) ≡ put_units + need ts
  needed_past ts = ap (units units_of) (needed_clean c.mode call.put ts none_malformed)
      ∙ units-both units_of call.put (needed_sequences c.mode ts)

  -- where all that is done was put out
  module _ (all_put : call.done ≡ call.put) where
    needed_put : (ts : List Sequence) → need (call.done ++ ts) ≡ put_units + need ts
    needed_put ts = ap (λ ss. need (ss ++ ts)) all_put ∙ needed_past ts

    left : (n : ℕ) → Exceeds (put_units + n) ↔ NeedExceeds units_of c.mode new rest c.last n
    left n = (
      λ exceeds. elim (compared need needed_put (put_units + n) exceeds) [
        | inl fewer ↦ absurd (omega (arith, fewer, none_needed units_of c.mode))
        | inr more ↦ record {
          sequences = more.0 ∷ more.1;
          determined = determined_past old.sequences new.sequences c.src rest call.done c.last
              call.residual (more.0 ∷ more.1) more.2;
          more = omega (arith, more.3);
        }
      ],
      λ exceeds. record {
        sequences = call.done ++ exceeds.sequences;
        determined = determined_after old.sequences new.sequences c.src rest call.done c.last
            call.residual exceeds.sequences exceeds.determined;
        more = omega (arith, exceeds.more, needed_put exceeds.sequences);
      },
    )

  abbrev Meets : DecoderResult → Type 0
  Meets result = MeetsDecodeNeed units_of old new (record c { result = result })

  abbrev Stops : DecoderResult → Type 0
  Stops result = DecoderStops units_of old new c call.put call.done result

  wrote_put : length c.wrote ≡ put_units
  wrote_put = ap length call.text

  fits : put_units ≤ c.room
  fits = omega (arith, call.fits, wrote_put)

  -- where all is read, nothing more is determined
  none_further : Stops InputEmpty → (s : Sequence) (ts : List Sequence)
      → AreDetermined c.last old.sequences c.src (call.done ++ s ∷ ts) → ⊥
  none_further stops s ts = by_last c.last call.residual stops.none_determined stops.none_left
    where
      by_last : (last : Bool)
          → LeavesOff old.sequences new.sequences c.src rest call.done last
          → (last ≡ false → (t : Sequence)
          → Determines old.sequences c.src (call.done ++ t ∷ []) → ⊥)
          → (last ≡ true → new.sequences [] ≡ [])
          → AreDetermined last old.sequences c.src (call.done ++ s ∷ ts) → ⊥
      by_last true leaves_off none_determined none_left determined =
          let first = determined_past old.sequences new.sequences c.src rest call.done true
          leaves_off (s ∷ ts) determined in
          let none_unread : rest ≡ [] =
          drop_of_length-le c.src (omega (arith, stops.all_read)) in
          let none_is_one : [] ≡ s ∷ (ts ++ first.0) =
          sym (none_left refl) ∙ ap new.sequences (sym none_unread) ∙ first.1 in
          cc
      by_last false leaves_off none_determined none_left determines =
          none_determined refl s (determines_fewer old.sequences c.src (call.done ++ s ∷ []) ts
          (subst (Determines old.sequences c.src) (sym (append_assoc call.done (s ∷ []) ts))
          determines))

  meets_empty : Stops InputEmpty → Meets InputEmpty
  meets_empty stops = record {
    full = (
      λ e. absurd (cc),
      λ exceeds. absurd (elim (compared need (needed_put stops.only_put) c.room exceeds) [
        | inl fewer ↦ omega (arith, fewer, fits, none_needed units_of c.mode)
        | inr more ↦ none_further stops more.0 more.1 more.2
      ]),
    );
    reaches = rw wrote_put (reaches need (needed_put stops.only_put));
    left = rw wrote_put (left stops.only_put);
  }

  -- the next one doesn't fit
  meets_full : Stops OutputFull → Meets OutputFull
  meets_full stops = record {
    full = (
      λ _. record {
        sequences = call.done ++ stops.next ∷ [];
        determined = stops.determined;
        more = omega (
          arith,
          stops.full,
          needed_put stops.only_put (stops.next ∷ []),
          ap (units units_of) (one_needed c.mode stops.next stops.not_reported),
          units-one units_of stops.next stops.next.text refl,
          ap (units units_of) stops.only_put,
        );
      },
      λ _. refl,
    );
    reaches = rw wrote_put (reaches need (needed_put stops.only_put));
    left = rw wrote_put (left stops.only_put);
  }

  -- one is reported
  module _ (l a : ℕ) (stops : Stops (stop.Malformed l a)) where
    needed_all : (ts : List Sequence) → need (call.done ++ ts) ≡ put_units + 0
    needed_all ts =
        ap (λ ss. need (ss ++ ts)) stops.then_next
        ∙ ap need (append_assoc call.put (stops.next ∷ []) ts)
        ∙ needed_past (stops.next ∷ ts)
        ∙ ap (λ k. put_units + k)
        (reported_need units_of c.mode stops.next ts stops.malformed stops.not_replaced)

    bounded : (n : ℕ) → Exceeds n → n < put_units
    bounded n exceeds = elim (compared (λ _. 0) needed_all n exceeds) [
      | inl fewer ↦ omega (arith, fewer)
      | inr more ↦ omega (arith, more.3)
    ]

    meets_malformed : Meets (stop.Malformed l a)
    meets_malformed = record {
      full = (λ e. absurd (cc), λ exceeds. absurd (omega (arith, bounded c.room exceeds, fits)));
      reaches = rw wrote_put (reaches (λ _. 0) needed_all);
      left = λ n. (
        λ exceeds. absurd (omega (arith, wrote_put, bounded (length c.wrote + n) exceeds)),
        λ none. absurd none,
      );
    }

  meets_by : (result : DecoderResult) → Stops result → Meets result
  meets_by InputEmpty stops = meets_empty stops
  meets_by OutputFull stops = meets_full stops
  meets_by (stop.Malformed l a) stops = meets_malformed l a stops

  -- Every call meets what it needs.
  pub meets_need : MeetsDecodeNeed units_of old new c
  meets_need = meets_by c.result call.stops
