use Rattle.std.proofs.Common.{◌≡◌, ◌-◌, ◌≤◌, length, take, drop, arith, subst, sym, ap, ◌∙◌}
use Rattle.std.proofs.Common.{get_or, nat_eq, take-append-drop, All, ◌≢◌, ◌++◌}
use Rattle.std.specs.Io.{StopsAt}
use Rattle.std.proofs.Transfers.{StopsAt-take}
use Rattle.std.specs.Str.{IsUtf8}
use Rattle.std.proofs.lemmas.Str.{IsUtf8-take, IsUtf8-drop}
use Rattle.enc_reader.proofs.TakenItemLemmas.{held_len, rest_held}
use Rattle.enc_reader.proofs.PlacedLineLemmas.{line_boundary, TakesPart-text}
use Rattle.enc_reader.proofs.line_reader.LineReader.take_text.Goals as goal

pub split_at-requires : goal.split_at-requires
split_at-requires g c =
    let lines = c.args.self.now in
    let held = c.held-held.result.now in
    let bytes = c.as_bytes.ensures.value in
    let line = c.line_len-len.ensures in
    let long : length held ≡ lines.filled - lines.at =
    ap length c.held-held.ensures ∙ held_len lines.text.now lines.at lines.filled lines.within in
    let some = line.some (omega (arith, c.requires.some, long, ap length bytes)) in
    line_boundary held c.line_len-len.result c.held-held.utf8 some
    (omega (arith, line.within, ap length bytes))
    (λ more. ap (λ l. get_or l (c.line_len-len.result - 1) 0) (sym bytes)
    ∙ line.ends (omega (arith, more, ap length bytes)))

pub invariant_of-self-clause-order : goal.invariant_of-self-clause-order
invariant_of-self-clause-order g c =
    let lines = c.args.self.now in
    let long = ap length c.held-held.ensures
    ∙ held_len lines.text.now lines.at lines.filled lines.within in
    omega (
      arith,
      c.line_len-len.ensures.within,
      ap length c.as_bytes.ensures.value,
      long,
      lines.order,
    )

pub invariant_of-self-clause-utf_8 : goal.invariant_of-self-clause-utf_8
invariant_of-self-clause-utf_8 g c =
    let lines = c.args.self.now in
    let len = c.line_len-len.result in
    let held = c.held-held.result.now in
    let bytes = c.as_bytes.ensures.value in
    let line = c.line_len-len.ensures in
    let long : length held ≡ lines.filled - lines.at =
    ap length c.held-held.ensures ∙ held_len lines.text.now lines.at lines.filled lines.within in
    let some = line.some (omega (arith, c.requires.some, long, ap length bytes)) in
    let boundary = line_boundary held len c.held-held.utf8 some
    (omega (arith, line.within, ap length bytes))
    (λ more. ap (λ l. get_or l (len - 1) 0) (sym bytes)
    ∙ line.ends (omega (arith, more, ap length bytes))) in
    ∣ subst IsUtf8
    (ap (drop len) c.held-held.ensures ∙ rest_held lines.text.now lines.at lines.filled len
    (omega (arith, line.within, ap length bytes, long, lines.order)))
    (IsUtf8-drop held len c.held-held.utf8 boundary) ∣₁

pub returns-clause-ok : goal.returns-clause-ok
returns-clause-ok g c =
    let lines = c.args.self.now in
    let len = c.line_len-len.result in
    let held = c.held-held.result.now in
    let front = c.split_at.result.0.now in
    let value = c.held-held.ensures in
    let bytes = c.as_bytes.ensures.value in
    let line = c.line_len-len.ensures in
    let long : length held ≡ lines.filled - lines.at =
    ap length value ∙ held_len lines.text.now lines.at lines.filled lines.within in
    let within : len ≤ length held = omega (arith, line.within, ap length bytes) in
    let some = line.some (omega (arith, c.requires.some, long, ap length bytes)) in
    let boundary = line_boundary held len c.held-held.utf8 some within
    (λ more. ap (λ l. get_or l (len - 1) 0) (sym bytes)
    ∙ line.ends (omega (arith, more, ap length bytes))) in
    let before = subst (λ l. All (λ b. b ≢ 10) (take (len - 1) l)) bytes line.before in
    let is_front = c.split_at.ensures.front in
    TakesPart-text lines.policy _ _ _ lines.position _ front _
    (sym value ∙ sym (take-append-drop len held)
    ∙ ap (λ l. l ++ drop len held) (sym is_front)
    ∙ ap (λ l. front ++ l) (ap (drop len) value ∙ rest_held lines.text.now lines.at lines.filled
    len (omega (arith, within, long, lines.order))))
    _ lines.malformed _
    (subst IsUtf8 (sym is_front) (IsUtf8-take held len c.held-held.utf8 boundary))
    (omega (arith, some, c.split_at.ensures.front_len))
    (subst (λ l. StopsAt l 10) (sym is_front) (StopsAt-take held 10 len within before))
    (ap (λ l. nat_eq (get_or l (len - 1) 0) 10) c.as_bytes-2.ensures.value
    ∙ ap (λ n. nat_eq (get_or front (n - 1) 0) 10) (sym c.split_at.ensures.front_len))
    c.in_ok-push_text.ensures.ok c.push_text.ensures.malformed c.after_part-self.ensures
