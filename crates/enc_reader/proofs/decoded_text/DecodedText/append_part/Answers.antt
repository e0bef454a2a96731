use Rattle.std.proofs.Common.{rules, arith, ◌≡◌, ◌≢◌, ◌-◌, ◌≤◌, All, false, length, take, drop, ◌++◌}
use Rattle.std.proofs.Common.{ap, sym, subst, ◌∙◌}
use Rattle.std.proofs.Common.{nat_eq, get_or, get_or-take, string_bytes, length-take-le}
use Rattle.std.proofs.lemmas.Bool.{eqb-false}
use Rattle.std.specs.Str.{IsUtf8}
use Rattle.std.specs.Prelude.{Err}
use Rattle.enc_reader.specs.declared.decode_reader.ReadFault.TheVariants as fault
use Rattle.enc_reader.specs.HeldText.{text_state_of, AppendsLine, BeginsWithCharacter}
use Rattle.enc_reader.proofs.HeldTextLemmas.{state_moved, subst_both, parts_utf_8}
use Rattle.enc_reader.proofs.LineLemmas.{AppendsLine-held}
use Rattle.enc_reader.proofs.decoded_text.DecodedText.append_part.Goals as goal

pub returns-in_err-append-clause-cut : goal.returns-in_err-append-clause-cut
returns-in_err-append-clause-cut g c =
    let held = c.held-held.result.now in
    let line = c.line_len-len.ensures in
    let no_end : nat_eq (length held) 0 ≡ false = search rules in
    let some = line.some (omega (arith, eqb-false (length held) 0 no_end)) in
    λ is_cut utf_8.
    let whole = subst IsUtf8 (sym c.held-held.ensures.value) (c.fill.ensures.utf_8 utf_8) in
    c.append.ensures.cut (search rules)
    (parts_utf_8 held c.line_len-len.result whole some line.within line.ends).0

pub returns-clause-ok : goal.returns-clause-ok
returns-clause-ok g c =
    let held = c.held-held.result.now in
    let value = c.held-held.ensures.value in
    let len = c.line_len-len.result in
    let line = c.line_len-len.ensures in
    let no_end : nat_eq (length held) 0 ≡ false = search rules in
    let some = line.some (omega (arith, eqb-false (length held) 0 no_end)) in
    let filled = c.fill.new.self in
    let last : get_or (take len held) (len - 1) 0 ≡ get_or held (len - 1) 0 =
    get_or-take len held (len - 1) 0 (omega (arith, some)) in
    subst_both
    (λ t s. AppendsLine (g.R.Source.remaining c.args.self.now.reader.reader.now) t
    (text_state_of c.args.self.now) s (string_bytes c.args.line.now)
    (string_bytes c.append.new.line) (nat_eq (get_or (take len held) (len - 1) 0) 10))
    (ap (λ r. g.R.Source.remaining r.reader.now) (sym c.advance.ensures.reader))
    (state_moved filled c.advance.new.self c.advance.ensures.reader c.advance.ensures.held)
    (AppendsLine-held (text_state_of filled) len _ c.fill.ensures.takes some
    (subst (λ l. len ≤ length l) value line.within)
    (subst (λ l. All (λ b. b ≢ 10) (take (len - 1) l)) value line.before)
    (ap (λ x. nat_eq x 10) last ∙ ap (λ l. nat_eq (get_or l (len - 1) 0) 10) value)
    (c.in_ok-append.ensures.ok ∙ ap (λ l. string_bytes c.args.line.now ++ take len l) value))

pub returns-clause-some : goal.returns-clause-some
returns-clause-some g c =
    let held = c.held-held.result.now in
    let line = c.line_len-len.ensures in
    let no_end : nat_eq (length held) 0 ≡ false = search rules in
    let some = line.some (omega (arith, eqb-false (length held) 0 no_end)) in
    λ _. omega (
      arith,
      some,
      c.in_ok-append.ensures.len,
      length-take-le c.line_len-len.result held line.within,
    )

pub returns-clause-utf_8 : goal.returns-clause-utf_8
returns-clause-utf_8 g c =
    let held = c.held-held.result.now in
    let value = c.held-held.ensures.value in
    let line = c.line_len-len.ensures in
    let no_end : nat_eq (length held) 0 ≡ false = search rules in
    let some = line.some (omega (arith, eqb-false (length held) 0 no_end)) in
    λ utf_8.
    let whole = subst IsUtf8 (sym value) (c.fill.ensures.utf_8 utf_8) in
    subst IsUtf8
    (ap (drop c.line_len-len.result) value ∙ sym c.advance.ensures.held)
    (parts_utf_8 held c.line_len-len.result whole some line.within line.ends).1

pub returns-in-Err-clause-reader_fault : goal.returns-in-Err-clause-reader_fault
returns-in-Err-clause-reader_fault g c = λ is_reader.
    let same : c.in-Err.fault ≡ fault.Reader = cc in
    c.fill.ensures.reader_fault (c.in-Err.is ∙ ap Err same)

pub returns-in-Err-clause-failed_before : goal.returns-in-Err-clause-failed_before
returns-in-Err-clause-failed_before g c = λ is_failed.
    let same : c.in-Err.fault ≡ fault.Failed = cc in
    c.fill.ensures.failed_before (c.in-Err.is ∙ ap Err same)

pub returns-in_err-append-clause-reader_fault : goal.returns-in_err-append-clause-reader_fault
returns-in_err-append-clause-reader_fault g c = λ is_reader.
    absurd (c.append.ensures.no_read fault.Reader (search rules))

pub returns-in_err-append-clause-failed_before : goal.returns-in_err-append-clause-failed_before
returns-in_err-append-clause-failed_before g c = λ is_failed.
    absurd (c.append.ensures.no_read fault.Failed (search rules))

pub returns-in_err-append-clause-memory_of_text : goal.returns-in_err-append-clause-memory_of_text
returns-in_err-append-clause-memory_of_text g c =
    let held = c.held-held.result.now in
    let value = c.held-held.ensures.value in
    let line = c.line_len-len.ensures in
    let no_end : nat_eq (length held) 0 ≡ false = search rules in
    λ no_memory.
    subst BeginsWithCharacter value (record {
      len = c.line_len-len.result;
      some = line.some (omega (arith, eqb-false (length held) 0 no_end));
      within = line.within;
      utf_8 = c.append.ensures.memory (search rules);
    })
