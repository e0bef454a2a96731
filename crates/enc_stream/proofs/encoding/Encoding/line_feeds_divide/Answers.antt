use Rattle.std.proofs.Common.{◌↔◌, IsTrue, Bool, sym, subst}
use Rattle.enc_stream.specs.Division.{LineFeedsDivide}
use Rattle.enc_stream.proofs.PropertyLemmas.{shows_line_feeds_divide}
use Rattle.enc_stream.proofs.encoding.Encoding.line_feeds_divide.Goals as goal

pub returns-clause-exact : goal.returns-clause-exact
returns-clause-exact c =
    subst (λ (t : Bool). IsTrue t ↔ LineFeedsDivide c.args.self) (sym c.is_ascii_compatible.ensures)
    (shows_line_feeds_divide c.args.self)
