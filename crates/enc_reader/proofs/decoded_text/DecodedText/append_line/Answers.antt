use Rattle.std.proofs.Common.{rules, ◌≡◌, true, false, string_bytes, subst, sym, ◌∙◌}
use Rattle.std.specs.Prelude.{Ok, IfOk}
use Rattle.enc_reader.specs.HeldText.{text_state_of, AppendsLine}
use Rattle.enc_reader.proofs.LineLemmas.{AppendsLine-none, AppendsLine-then, AppendsText-line, AppendsText-fails}
use Rattle.enc_reader.proofs.LineLemmas.{AppendsText-known, SourceFails-after}
use Rattle.enc_reader.proofs.decoded_text.DecodedText.append_line.Goals as goal

pub parts-init : goal.parts-init
parts-init g c = record {
  so_far = AppendsLine-none _ _ _;
  start = search rules;
  grown = search rules;
  utf_8 = λ utf_8. utf_8;
  kept = search rules;
  going = search rules;
  same_reader = search rules;
}

pub parts-preserved : goal.parts-preserved
parts-preserved g c =
    let more : c.append_part.result ≡ Ok false = search rules in
    let part = subst (λ r. IfOk r (AppendsLine
    (g.R.Source.remaining c.parts.self.reader.reader.now)
    (g.R.Source.remaining c.append_part.new.self.reader.reader.now) (text_state_of c.parts.self)
    (text_state_of c.append_part.new.self) (string_bytes c.parts.line)
    (string_bytes c.append_part.new.line))) more c.append_part.ensures.ok in
    record {
      so_far = AppendsLine-then c.parts.invariant.so_far part;
      start = search rules;
      grown = search rules;
      utf_8 = λ utf_8. c.append_part.ensures.utf_8 (c.parts.invariant.utf_8 utf_8);
      kept = search rules;
      going = search rules;
      same_reader = search rules;
    }

pub returns-in_err-append_part-clause-none_lost : goal.returns-in_err-append_part-clause-none_lost
returns-in_err-append_part-clause-none_lost g c =
    AppendsText-fails c.parts.invariant.so_far c.in_err-append_part.ensures.err
    c.in_err-append_part.ensures.none_lost

pub returns-in_err-append_part-clause-known : goal.returns-in_err-append_part-clause-known
returns-in_err-append_part-clause-known g c =
    AppendsText-known
    (AppendsText-fails c.parts.invariant.so_far c.in_err-append_part.ensures.err
    c.in_err-append_part.ensures.none_lost)
    c.append_part.new.self.reader.exhausted

pub returns-in_err-append_part-clause-utf_8 : goal.returns-in_err-append_part-clause-utf_8
returns-in_err-append_part-clause-utf_8 g c =
    λ utf_8. c.append_part.ensures.utf_8 (c.parts.invariant.utf_8 utf_8)

pub returns-in_err-append_part-clause-cut : goal.returns-in_err-append_part-clause-cut
returns-in_err-append_part-clause-cut g c =
    λ is_cut utf_8. c.append_part.ensures.cut (search rules) (c.parts.invariant.utf_8 utf_8)

pub returns-then-branch-clause-ok : goal.returns-then-branch-clause-ok
returns-then-branch-clause-ok g c =
    let done : c.append_part.result ≡ Ok true = search rules in
    let part = subst (λ r. IfOk r (AppendsLine
    (g.R.Source.remaining c.parts.self.reader.reader.now)
    (g.R.Source.remaining c.append_part.new.self.reader.reader.now) (text_state_of c.parts.self)
    (text_state_of c.append_part.new.self) (string_bytes c.parts.line)
    (string_bytes c.append_part.new.line))) done c.append_part.ensures.ok in
    AppendsLine-then c.parts.invariant.so_far part

pub returns-then-branch-clause-none_lost : goal.returns-then-branch-clause-none_lost
returns-then-branch-clause-none_lost g c =
    let done : c.append_part.result ≡ Ok true = search rules in
    let part = subst (λ r. IfOk r (AppendsLine
    (g.R.Source.remaining c.parts.self.reader.reader.now)
    (g.R.Source.remaining c.append_part.new.self.reader.reader.now) (text_state_of c.parts.self)
    (text_state_of c.append_part.new.self) (string_bytes c.parts.line)
    (string_bytes c.append_part.new.line))) done c.append_part.ensures.ok in
    AppendsText-line (AppendsLine-then c.parts.invariant.so_far part)

pub returns-then-branch-clause-known : goal.returns-then-branch-clause-known
returns-then-branch-clause-known g c =
    let done : c.append_part.result ≡ Ok true = search rules in
    let part = subst (λ r. IfOk r (AppendsLine
    (g.R.Source.remaining c.parts.self.reader.reader.now)
    (g.R.Source.remaining c.append_part.new.self.reader.reader.now) (text_state_of c.parts.self)
    (text_state_of c.append_part.new.self) (string_bytes c.parts.line)
    (string_bytes c.append_part.new.line))) done c.append_part.ensures.ok in
    AppendsText-known (AppendsText-line (AppendsLine-then c.parts.invariant.so_far part))
    c.append_part.new.self.reader.exhausted

pub returns-then-branch-clause-utf_8 : goal.returns-then-branch-clause-utf_8
returns-then-branch-clause-utf_8 g c =
    λ utf_8. c.append_part.ensures.utf_8 (c.parts.invariant.utf_8 utf_8)

pub returns-in_err-append_part-clause-reader_fault
    : goal.returns-in_err-append_part-clause-reader_fault
returns-in_err-append_part-clause-reader_fault g c = λ is_reader.
    SourceFails-after c.parts.invariant.so_far c.parts.invariant.kept
    (c.append_part.ensures.reader_fault (search rules))
    (c.append_part.ensures.none_held (search rules))

pub returns-in_err-append_part-clause-failed_before
    : goal.returns-in_err-append_part-clause-failed_before
returns-in_err-append_part-clause-failed_before g c = λ is_failed.
    sym c.parts.invariant.going ∙ c.append_part.ensures.failed_before (search rules)
