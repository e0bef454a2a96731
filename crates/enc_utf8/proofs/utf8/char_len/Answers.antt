use Rattle.std.proofs.str.Valid.{of_one}
use Rattle.std.proofs.Common.{arith}
use Rattle.enc_utf8.proofs.Utf8SequenceLemmas.{len_by_range, second_at, continues}
use Rattle.enc_utf8.proofs.Utf8RunLemmas.{two_front, three_front, four_front}
use Rattle.enc_utf8.proofs.utf8.char_len.Goals as goal

pub returns-then-first-lt128-clause-utf8 : goal.returns-then-first-lt128-clause-utf8
returns-then-first-lt128-clause-utf8 c = of_one c.args.src.now 0 (omega arith) (omega arith)

pub returns-then-first-lt224-clause-utf8 : goal.returns-then-first-lt224-clause-utf8
returns-then-first-lt224-clause-utf8 c =
    two_front c.args.src.now (omega arith) ((len_by_range _).two (omega arith) (omega arith))
    (second_at _ _ (omega arith, omega arith) (λ e0. omega arith) (λ ed. omega arith)
    (λ f0. omega arith) (λ f4. omega arith))

pub returns-then-first-lt240-clause-utf8 : goal.returns-then-first-lt240-clause-utf8
returns-then-first-lt240-clause-utf8 c =
    three_front c.args.src.now (omega arith)
    ((len_by_range _).three (omega arith) (omega arith))
    (second_at _ _ (omega arith, omega arith) (λ e0. omega (arith, c.if-second-lt160.either))
    (λ ed. omega (arith, c.if-second-ge160.either)) (λ f0. omega arith) (λ f4. omega arith))
    (continues _ (omega arith, omega arith))

pub returns-clause-utf8 : goal.returns-clause-utf8
returns-clause-utf8 c =
    four_front c.args.src.now (omega arith) ((len_by_range _).four (omega arith) (omega arith))
    (second_at _ _ (omega arith, omega arith) (λ e0. omega arith) (λ ed. omega arith)
    (λ f0. omega (arith, c.if-second-lt144.either)) (λ f4. omega (arith, c.if-second-ge144.either)))
    (continues _ (omega arith, omega arith)) (continues _ (omega arith, omega arith))
