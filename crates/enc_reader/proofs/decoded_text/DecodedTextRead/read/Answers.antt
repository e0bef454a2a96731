use Rattle.std.proofs.Common.{arith, ◌≡◌, ◌≤◌, [], ◌++◌, length, take, drop, ap, sym, subst, ◌∙◌, take_at}
use Rattle.std.proofs.Common.{length-append, length-take-le}
use Rattle.std.proofs.Math.ListN.{length-drop}
use Rattle.std.proofs.lemmas.List.{nil_from_length}
use Rattle.std.specs.Io.KnownBytes.{Consumes, IsAtEnd}
use Rattle.enc_reader.specs.Reader.{state_of}
use Rattle.enc_reader.specs.HeldText.{text_state_of, remaining_text, IsTextAtEnd}
use Rattle.enc_reader.proofs.HeldTextLemmas.{holding, state_moved, subst_both, takes_known, keeps_known, known_end}
use Rattle.enc_reader.proofs.HeldTextLemmas.{TakesText-none, TakesText-then, TakesText-held}
use Rattle.enc_reader.proofs.decoded_text.DecodedTextRead.read.Goals as goal

pub returns-in-Err-clause-bytes : goal.returns-in-Err-clause-bytes
returns-in-Err-clause-bytes g c =
    keeps_known _ _
    (takes_known _ _ _ _ [] c.fill_or_error.ensures.takes c.fill_or_error.new.self.reader.exhausted)

pub returns-clause-bytes : goal.returns-clause-bytes
returns-clause-bytes g c =
    let filled = c.fill_or_error.new.self in
    let held = c.held-held.result.now in
    let value = c.held-held.ensures.value in
    let shown = (text_state_of filled).held in
    let len = c.min-len.result in
    let copied = c.copy_from_slice.new.self in
    let rest = drop len c.args.buf.now in
    let source = g.R.Source.remaining filled.reader.reader.now in
    let before = remaining_text (g.R.Source.remaining c.args.self.now.reader.reader.now)
    (text_state_of c.args.self.now) in
    let within : len ≤ length held = omega (arith, c.min-len.ensures) in
    let copied_len : length copied ≡ len =
    ap length c.copy_from_slice.ensures.after ∙ length-take-le len held within in
    let bytes : take len (copied ++ rest) ≡ take len shown =
    take_at copied rest len copied_len ∙ c.copy_from_slice.ensures.after
    ∙ ap (take len) value in
    let same_source = ap (λ r. g.R.Source.remaining r.reader.now) (sym c.advance.ensures.reader) in
    let moved = state_moved filled c.advance.new.self c.advance.ensures.reader
    c.advance.ensures.held in (
      subst (Consumes before _) (sym bytes)
          (subst_both (λ t s. Consumes before (remaining_text t s) (take len shown)) same_source
          moved (takes_known _ source _ (holding (state_of filled.reader) (drop len shown)
          filled.reader.had_errors)
          (take len shown) (TakesText-then c.fill_or_error.ensures.takes
          (TakesText-held source (state_of filled.reader) shown filled.reader.had_errors len))
          filled.reader.exhausted)),
      λ zero some.
          let none : shown ≡ [] = nil_from_length shown (omega (
            arith,
            zero,
            some,
            c.min-len.ensures,
            copied_len,
            ap length value,
            length-append copied rest,
            length-drop len c.args.buf.now,
          )) in
          subst_both (λ t s. IsAtEnd (remaining_text t s)) same_source moved
          (subst
          (λ n. IsAtEnd (remaining_text source (holding (state_of filled.reader) (drop n shown)
          filled.reader.had_errors)))
          (sym zero) (known_end source (text_state_of filled) (c.in_default.ensures.end none))),
    )

pub returns-then-is_empty-clause-takes : goal.returns-then-is_empty-clause-takes
returns-then-is_empty-clause-takes g c = TakesText-none _ _

pub returns-clause-end : goal.returns-clause-end
returns-clause-end g c =
    let filled = c.fill_or_error.new.self in
    let value = c.held-held.ensures.value in
    let shown = (text_state_of filled).held in
    let len = c.min-len.result in
    let source = g.R.Source.remaining filled.reader.reader.now in
    λ is_zero some.
    let zero : len ≡ 0 = cc in
    let copied_len : length c.copy_from_slice.new.self ≡ len =
    ap length c.copy_from_slice.ensures.after
    ∙ length-take-le len c.held-held.result.now (omega (arith, c.min-len.ensures)) in
    let none : shown ≡ [] = nil_from_length shown (omega (
      arith,
      zero,
      some,
      c.min-len.ensures,
      copied_len,
      ap length value,
      length-append c.copy_from_slice.new.self (drop len c.args.buf.now),
      length-drop len c.args.buf.now,
    )) in
    subst_both (λ t s. IsTextAtEnd t s)
    (ap (λ r. g.R.Source.remaining r.reader.now) (sym c.advance.ensures.reader))
    (state_moved filled c.advance.new.self c.advance.ensures.reader c.advance.ensures.held)
    (subst
    (λ n. IsTextAtEnd source (holding (state_of filled.reader) (drop n shown)
    filled.reader.had_errors))
    (sym zero) (c.in_default.ensures.end none))
