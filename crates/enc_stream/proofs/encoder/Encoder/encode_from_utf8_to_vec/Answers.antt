use Rattle.std.proofs.Common.{◌≡◌, ◌∙◌, ap, length, drop, rules}
use Rattle.enc_stream.proofs.EncoderLemmas.{in_tail, tail_of}
use Rattle.enc_stream.proofs.encoder.Encoder.encode_from_utf8_to_vec.Goals as goal

pub returns-clause-call : goal.returns-clause-call
returns-clause-call c =
    let made = c.encode_from_utf8-stop in
    let len : c.len-len.result ≡ length c.args.dst.now.items = search rules in
    let tail = tail_of _ made.new.dst _ _ _ _ (search rules) (search rules) (search rules)
    c.truncate.ensures.items in
    in_tail (search rules) (tail ∙ ap (λ n. drop n c.truncate.new.self.items) len)
    made.ensures.call
