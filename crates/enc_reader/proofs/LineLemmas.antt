-- Lines that grow by text that is taken.
use Rattle.std.proofs.Common.{◌≡◌, ◌≢◌, ℕ, ◌+◌, ◌-◌, ◌<◌, ◌≤◌, ◌==◌, inl, inr, Bool, true, false, List, [], ◌++◌}
use Rattle.std.proofs.Common.{length, take, drop, All, Option, refl, ap, ◌∙◌, sym, subst, arith, get_or, get_or-take}
use Rattle.std.proofs.Common.{append_assoc, append-nil, length-append, length-take-le, eq-eqb, eqb-true}
use Rattle.std.proofs.Common.{get_or-append-add}
use Rattle.std.proofs.lemmas.Bool.{false≢true}
use Rattle.std.proofs.lemmas.List.Elements.{All-nil, All-more, All-append}
use Rattle.std.proofs.Transfers.{StopsAt-of_All, StopsAt-take, StopsAt-append, drop-appended}
use Rattle.std.specs.Io.{appended_bytes}
use Rattle.std.specs.Io.KnownBytes.{Consumes}
use Rattle.enc_reader.specs.Source.{IsExhausted}
use Rattle.enc_reader.specs.Reading.{FailsToRead}
use Rattle.enc_reader.specs.HeldText.{TextState, TakesText, IsTextAtEnd, EndsWithByte, AppendsText, AppendsLine}
use Rattle.enc_reader.specs.HeldText.{SourceFails, remaining_text}
use Rattle.std.proofs.KnownBytes.{Consumes-trans}
use Rattle.enc_reader.proofs.HeldTextLemmas.{TakesText-none, TakesText-then, TakesText-held, takes_known}

abbrev is_no_feed : ℕ → Type 0
is_no_feed b = b ≢ 10

-- a line that has not grown
pub AppendsLine-none : (source : Option (List ℕ)) (s : TextState) (line : List ℕ)
    → AppendsLine source source s s line line false
AppendsLine-none source s line = record {
  wrote = [];
  appended = sym (append-nil line);
  takes = TakesText-none source s;
  stops = StopsAt-of_All [] 10 (All-nil is_no_feed);
  part = λ _. All-nil is_no_feed;
  whole = λ is_whole. absurd (false≢true is_whole);
}

-- the last line, after which nothing follows
pub AppendsLine-end : {t₀ t₁ : Option (List ℕ)} {a b : TextState} (line : List ℕ)
    → TakesText t₀ t₁ a b [] → IsTextAtEnd t₁ b → AppendsLine t₀ t₁ a b line line true
AppendsLine-end line takes at_end = record {
  wrote = [];
  appended = sym (append-nil line);
  takes = takes;
  stops = StopsAt-of_All [] 10 (All-nil is_no_feed);
  part = λ no. absurd (false≢true (sym no));
  whole = λ _. inr at_end;
}

-- the first bytes of the text that is held, up to and with the first line feed, or all
pub AppendsLine-held : {t₀ t₁ : Option (List ℕ)} {a : TextState} (filled : TextState)
    {line_before line_after : List ℕ} (len : ℕ) (is_whole : Bool)
    → TakesText t₀ t₁ a filled [] → 0 < len → len ≤ length filled.held
    → All (λ b. b ≢ 10) (take (len - 1) filled.held)
    → is_whole ≡ (get_or filled.held (len - 1) 0 == 10)
    → line_after ≡ line_before ++ take len filled.held
    → AppendsLine t₀ t₁ a (record filled { held = drop len filled.held }) line_before line_after
    is_whole
AppendsLine-held {t₁ = t₁} filled len is_whole takes some within before is appended =
    let held = filled.held in
    let last : len - 1 < length held = omega (arith, some, within) in
    let all : len - 1 + 1 ≡ len = omega (arith, some) in
    let long = length-take-le len held within in
    record {
      wrote = take len held;
      appended = appended;
      takes = TakesText-then takes
          (TakesText-held t₁ filled.reader held filled.had_errors len);
      stops = StopsAt-take held 10 len within before;
      part = λ no. subst (λ k. All is_no_feed (take k held)) all
          (All-more is_no_feed held (len - 1) 0 last before
          (λ feed. false≢true (sym no ∙ is ∙ eq-eqb _ _ feed)));
      whole = λ yes. inl (record {
        some = omega (arith, some, long);
        ends = ap (λ n. get_or (take len held) (n - 1) 0) long
            ∙ get_or-take len held (len - 1) 0 (omega (arith, some))
            ∙ eqb-true _ _ (sym is ∙ yes);
      });
    }

ends_after : (v w : List ℕ) → EndsWithByte 10 w → EndsWithByte 10 (v ++ w)
ends_after v w ends_in =
    let last : length (v ++ w) - 1 ≡ length v + (length w - 1) =
    omega (arith, ends_in.some, length-append v w) in
    record {
      some = omega (arith, ends_in.some, length-append v w);
      ends = ap (λ n. get_or (v ++ w) n 0) last
          ∙ get_or-append-add v w (length w - 1) 0 ∙ ends_in.ends;
    }

-- a part, after others without a line feed
module _ {t₀ t₁ t₂ : Option (List ℕ)} where
  pub AppendsLine-then : {a b c : TextState} {l₀ l₁ l₂ : List ℕ} {is_whole : Bool}
      → AppendsLine t₀ t₁ a b l₀ l₁ false → AppendsLine t₁ t₂ b c l₁ l₂ is_whole
      → AppendsLine t₀ t₂ a c l₀ l₂ is_whole
  AppendsLine-then {l₀ = l₀} so_far next =
      let none = so_far.part refl in
      record {
        wrote = so_far.wrote ++ next.wrote;
        appended = next.appended ∙ ap (λ l. l ++ next.wrote) so_far.appended
            ∙ append_assoc l₀ so_far.wrote next.wrote;
        takes = TakesText-then so_far.takes next.takes;
        stops = StopsAt-append so_far.wrote next.wrote 10 none next.stops;
        part = λ no. All-append is_no_feed so_far.wrote next.wrote none (next.part no);
        whole = λ yes. elim (next.whole yes) [
          | inl ends_in ↦ inl (ends_after so_far.wrote next.wrote ends_in)
          | inr at_end ↦ inr at_end
        ];
      }

pub AppendsText-line : {t₀ t₁ : Option (List ℕ)} {a b : TextState} {l₀ l₁ : List ℕ}
    {is_whole : Bool} → AppendsLine t₀ t₁ a b l₀ l₁ is_whole → AppendsText t₀ t₁ a b l₀ l₁
AppendsText-line appends = record {
  wrote = appends.wrote;
  appended = appends.appended;
  takes = appends.takes;
  stops = appends.stops;
}

-- a fault after parts without a line feed
pub AppendsText-fails : {t₀ t₁ t₂ : Option (List ℕ)} {a b c : TextState} {l₀ l₁ l₂ : List ℕ}
    → AppendsLine t₀ t₁ a b l₀ l₁ false → l₂ ≡ l₁ → TakesText t₁ t₂ b c []
    → AppendsText t₀ t₂ a c l₀ l₂
AppendsText-fails {t₀ = t₀} {t₂ = t₂} {a = a} {c = c} so_far same takes = record {
  wrote = so_far.wrote;
  appended = same ∙ so_far.appended;
  takes = subst (TakesText t₀ t₂ a c) (append-nil so_far.wrote)
      (TakesText-then so_far.takes takes);
  stops = so_far.stops;
}

-- Where the source models its bytes, the text to come loses what the line has got.
pub AppendsText-known : {t₀ t₁ : Option (List ℕ)} {a b : TextState} {l₀ l₁ : List ℕ}
    → AppendsText t₀ t₁ a b l₀ l₁ → (b.reader.ended ≡ true → IsExhausted t₁)
    → Consumes (remaining_text t₀ a) (remaining_text t₁ b) (appended_bytes l₀ l₁)
AppendsText-known {t₀ = t₀} {t₁ = t₁} {a = a} {b = b} {l₀ = l₀} {l₁ = l₁} appends exhausted =
    subst (Consumes (remaining_text t₀ a) (remaining_text t₁ b))
    (sym (drop-appended l₀ l₁ appends.wrote appends.appended))
    (takes_known t₀ t₁ a b appends.wrote appends.takes exhausted)

-- a source that fails after parts without a line feed
module _ {t₀ t₁ t₂ : Option (List ℕ)} {failed_before failed_between failed_after : Bool} where
  pub SourceFails-after : {a b c : TextState} {l₀ l₁ : List ℕ}
      → AppendsLine t₀ t₁ a b l₀ l₁ false → failed_between ≡ failed_before
      → FailsToRead t₁ t₂ failed_between failed_after b.reader c.reader → c.held ≡ []
      → SourceFails t₀ t₂ failed_before failed_after c
  SourceFails-after so_far kept fails none_held = record {
    none_held = none_held;
    none_determined = fails.none_determined;
    bytes = so_far.takes.bytes ++ fails.bytes;
    given = Consumes-trans t₀ t₁ t₂ so_far.takes.bytes fails.bytes
        so_far.takes.reads.given fails.reads.given;
    not_before = sym kept ∙ fails.not_before;
    why = elim fails.why [
      | inl failed ↦ inl failed
      | inr long ↦ inr (omega (arith, long, length-append so_far.takes.bytes fails.bytes))
    ];
  }
