use Rattle.std.proofs.Common.{◌≡◌, rules, arith, sym, ◌∙◌}
use Rattle.enc_writer.proofs.Utf16Lemmas.{first_put}
use Rattle.enc_writer.proofs.utf16_units.put_front.Goals as goal

pub returns-clause-puts : goal.returns-clause-puts
returns-clause-puts c =
    let read = c.put_utf8-read in
    let none : read.result ≡ 0 = omega arith in
    first_put c.next.new.self.rest.now read.result c.len_utf8.result c.in-Some.character
    (rw c.as_bytes.ensures.value at read.ensures) none (omega arith) (search rules)
    (sym c.chars.ensures.rest ∙ c.in-Some.ensures.steps.0) c.len_utf8.ensures.len
    (λ test. c.put.ensures.written (c.put.ensures.fits ∙ test))
