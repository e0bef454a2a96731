-- Successive steps of a writer of UTF-16 are one, and what they say of the whole text.
use Rattle.std.proofs.Common.{◌≡◌, ℕ, List, [], ◌++◌, Option, refl, ap, ◌∙◌, sym, subst}
use Rattle.std.proofs.Common.{append_assoc, append-nil}
use Rattle.enc_writer.specs.declared.byte_order.ByteOrder.{ByteOrder}
use Rattle.enc_writer.specs.Sink.{AppendsContents, AppendsPrefix}
use Rattle.enc_writer.specs.Utf16.{utf16_bytes}
use Rattle.enc_writer.specs.Utf16Writing.{Utf16WriterState, HasWrittenUtf16, WritesUtf16}
use Rattle.enc_writer.specs.Utf16Writing.{StopsUtf16, EndsUtf16, owed_utf16}
use Rattle.std.specs.Io.KnownBytes.{Keeps}
use Rattle.enc_writer.proofs.SinkLemmas.{AppendsContents-none, AppendsContents-then, AppendsContents-keeps}
use Rattle.enc_writer.proofs.Utf16Lemmas.{utf16_bytes-append}

abbrev pub state_of : ByteOrder → List ℕ → Utf16WriterState
state_of order held = record { order = order; held = held }

-- nothing is written
pub written_none : (k : Option (List ℕ)) (w : Utf16WriterState) → HasWrittenUtf16 k k w w []
written_none k w = record {
  order = refl;
  pushed = [];
  taken = AppendsContents-none k;
  owed = append-nil w.held;
}

-- all bytes held are pushed
pub written_pushed : {k₀ k₁ : Option (List ℕ)} (order : ByteOrder) (held : List ℕ)
    → AppendsContents k₀ k₁ held
    → HasWrittenUtf16 k₀ k₁ (record { order = order; held = held })
    (record { order = order; held = [] }) []
written_pushed order held taken = record {
  order = refl;
  pushed = held;
  taken = taken;
  owed = refl;
}

-- a text is put into the buffer
pub written_stored : (k : Option (List ℕ)) {order : ByteOrder} {held now : List ℕ} {text : List ℕ}
    → now ≡ held ++ utf16_bytes order text
    → HasWrittenUtf16 k k (record { order = order; held = held })
    (record { order = order; held = now }) text
written_stored k stored = record {
  order = refl;
  pushed = [];
  taken = AppendsContents-none k;
  owed = sym stored;
}

module _ {k₀ k₁ k₂ : Option (List ℕ)} {a b c : Utf16WriterState} where
  pub written_then : {t u : List ℕ} → HasWrittenUtf16 k₀ k₁ a b t → HasWrittenUtf16 k₁ k₂ b c u
      → HasWrittenUtf16 k₀ k₂ a c (t ++ u)
  written_then {t} {u} first next = record {
    order = next.order ∙ first.order;
    pushed = first.pushed ++ next.pushed;
    taken = AppendsContents-then k₀ k₁ k₂ first.pushed next.pushed first.taken next.taken;
    owed =
        let bytes = utf16_bytes a.order in
        ap (λ z. a.held ++ z) (utf16_bytes-append a.order t u)
        ∙ sym (append_assoc a.held (bytes t) (bytes u))
        ∙ ap (λ z. z ++ bytes u) first.owed
        ∙ append_assoc first.pushed b.held (bytes u)
        ∙ ap (λ o. first.pushed ++ (b.held ++ utf16_bytes o u)) (sym first.order)
        ∙ ap (λ z. first.pushed ++ z) next.owed
        ∙ sym (append_assoc first.pushed next.pushed c.held);
  }

-- a call writes a text
pub writes_by : {k₀ k₁ : Option (List ℕ)} {a b : Utf16WriterState} {t : List ℕ}
    → HasWrittenUtf16 k₀ k₁ a b t → WritesUtf16 k₀ k₁ a b t
writes_by alone =
    record { alone = alone; after = λ k start before first. written_then first alone }

-- a part of a text is written, and a push of the bytes held fails
pub stops_by : {k₀ k₁ k₂ : Option (List ℕ)} {a b : Utf16WriterState} {t front : List ℕ}
    (rest : List ℕ) → HasWrittenUtf16 k₀ k₁ a b front → t ≡ front ++ rest
    → AppendsPrefix k₁ k₂ b.held → StopsUtf16 k₀ k₂ a t
stops_by {k₁ = k₁} {k₂} {b = b} {t} {front} rest written parts part k start before first =
    let both = written_then first written in
    let bytes = utf16_bytes start.order in
    record {
      wrote = both.pushed ++ part.wrote;
      unwritten = part.unwritten ++ bytes rest;
      prefix =
          ap (λ z. start.held ++ bytes z)
          (ap (λ z. before ++ z) parts ∙ sym (append_assoc before front rest))
          ∙ ap (λ z. start.held ++ z) (utf16_bytes-append start.order (before ++ front) rest)
          ∙ sym (append_assoc start.held (bytes (before ++ front)) (bytes rest))
          ∙ ap (λ z. z ++ bytes rest) (both.owed ∙ ap (λ z. both.pushed ++ z) part.prefix
          ∙ sym (append_assoc both.pushed part.wrote part.unwritten))
          ∙ append_assoc (both.pushed ++ part.wrote) part.unwritten (bytes rest);
      taken = AppendsContents-then k k₁ k₂ both.pushed part.wrote both.taken part.taken;
    }

-- no call is made
pub stops_none : (k : Option (List ℕ)) (w : Utf16WriterState) (t : List ℕ) → StopsUtf16 k k w t
stops_none k w t = stops_by t (written_none k w) refl (record {
  wrote = [];
  unwritten = w.held;
  prefix = refl;
  taken = AppendsContents-none k;
})

-- The sink keeps its bytes after a text.
pub written_keeps : {k₀ k₁ k₂ : Option (List ℕ)} {a b c : Utf16WriterState} {t : List ℕ}
    → HasWrittenUtf16 k₀ k₁ a b t → Keeps k₁ k₂ → c ≡ b → HasWrittenUtf16 k₀ k₂ a c t
written_keeps {k₀} {k₁} {k₂} written keeps same = record {
  order = ap (λ (w : Utf16WriterState). w.order) same ∙ written.order;
  pushed = written.pushed;
  taken = AppendsContents-keeps k₀ k₁ k₂ written.pushed written.taken keeps;
  owed = written.owed ∙ ap (λ (w : Utf16WriterState). written.pushed ++ w.held) (sym same);
}

-- all bytes are pushed, and then the sink fails without taking any more
pub stops_keeps : {k₀ k₁ k₂ : Option (List ℕ)} {a b : Utf16WriterState}
    → HasWrittenUtf16 k₀ k₁ a b [] → Keeps k₁ k₂ → StopsUtf16 k₀ k₂ a []
stops_keeps {k₀} {k₁} {k₂} {b = b} written keeps =
    stops_by [] (written_keeps {c = b} written keeps refl) refl (record {
      wrote = [];
      unwritten = b.held;
      prefix = refl;
      taken = AppendsContents-none k₂;
    })

-- all bytes are pushed, after whatever was written
pub ends_by : {k₀ k₁ : Option (List ℕ)} {a b : Utf16WriterState} → WritesUtf16 k₀ k₁ a b []
    → b.held ≡ [] → EndsUtf16 k₀ k₁ a
ends_by {k₁ = k₁} writes none_held k start text first =
    let all = writes.after k start text first in
    let bytes : owed_utf16 start text ≡ all.pushed =
    ap (owed_utf16 start) (sym (append-nil text)) ∙ all.owed
    ∙ ap (λ z. all.pushed ++ z) none_held ∙ append-nil all.pushed in
    subst (AppendsContents k k₁) (sym bytes) all.taken
