use Rattle.std.proofs.Common.{arith, ◌≡◌, ◌+◌, ◌-◌, ◌++◌, length, take, drop, ap, ◌∙◌, length-append}
use Rattle.enc_reader.proofs.decode_reader.DecodeReader.sequence_of.Goals as goal

pub returns-clause-bytes : goal.returns-clause-bytes
returns-clause-bytes g c =
    let reader = c.args.self.now in
    let front = take reader.at reader.input.now in
    let lens = c.args.lens in
    let all : 8 + length front ≡ length (reader.recent ++ front) =
    omega (arith, length-append reader.recent front) in
    rw (c.new.ensures.bytes, c.new.ensures.len) (c.bytes_before_end-bytes.ensures
    ∙ ap (λ n. take lens.len (drop (n - lens.after - lens.len) (reader.recent ++ front))) all)
