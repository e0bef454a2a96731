use Rattle.std.proofs.Common.{◌≡◌, ◌∙◌, ◌++◌, ap, sym, append-nil, rules}
use Rattle.std.specs.Char.{encode_utf8}
use Rattle.std.specs.String.{string_bytes}
use Rattle.encoding_rs.proofs.DecodeCallLemmas.{offered, nothing_for, replacement_for}
use Rattle.encoding_rs.proofs.run.make_call.Goals as goal

pub returns-then-not-reports : goal.returns-then-not-reports
returns-then-not-reports c =
    let chunk = offered c.args.call.offer _ _ _ c.split_at.ensures.front c.min.ensures in
    let wrote = string_bytes c.in_ok-outcome.piece in
    let base : string_bytes c.push_str.new.self ≡ string_bytes c.args.text.now ++ wrote =
    search rules in
    let none = nothing_for c.in_ok-outcome.outcome.result
    (sym c.reports.ensures ∙ c.if-not-reports.true) in
    record {
      wrote = wrote;
      answers = rw chunk at c.in_ok-outcome.ensures;
      text = base ∙ sym (append-nil (string_bytes c.args.text.now ++ wrote))
          ∙ ap (λ x. (string_bytes c.args.text.now ++ wrote) ++ x) (sym none);
    }

pub returns : goal.returns
returns c =
    let chunk = offered c.args.call.offer _ _ _ c.split_at.ensures.front c.min.ensures in
    let wrote = string_bytes c.in_ok-outcome.piece in
    let base : string_bytes c.push_str.new.self ≡ string_bytes c.args.text.now ++ wrote =
    search rules in
    let one = replacement_for c.in_ok-outcome.outcome.result
    (sym c.reports.ensures ∙ c.if-not-reports.false) in
    let more : string_bytes c.push.new.self ≡ string_bytes c.push_str.new.self
    ++ encode_utf8 0xFFFD = search rules in
    record {
      wrote = wrote;
      answers = rw chunk at c.in_ok-outcome.ensures;
      text = more ∙ ap (λ x. x ++ encode_utf8 0xFFFD) base
          ∙ ap (λ x. (string_bytes c.args.text.now ++ wrote) ++ x) (sym one);
    }
