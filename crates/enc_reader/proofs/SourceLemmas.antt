-- What a source gives, over several pulls.
use Rattle.std.proofs.Common.{ℕ, List, Option, Some, None, refl, ap, ◌∙◌, sym}
use Rattle.std.specs.declared.result.Result.{Result}
use Rattle.std.specs.Prelude.{Ok, Err, OnErr}
use Rattle.std.specs.Io.KnownBytes.{IsAtEnd, Keeps, ReadConsumes}
use Rattle.std.proofs.KnownBytes.{Keeps-trans}
use Rattle.enc_reader.specs.Source.{IsExhausted}

-- At the end no byte is still to come.
pub none_more : (known : Option (List ℕ)) → IsAtEnd known → IsExhausted known
none_more None e = refl
none_more (Some xs) e = ap Some e

pub at_end : (known : Option (List ℕ)) → IsExhausted known → IsAtEnd known
at_end None e = tt
at_end (Some xs) e = cc

pub on_err : {T E : Type 0} (r : Result T E) (P : Type 0) → P → OnErr r P
on_err (Ok x) P h = tt
on_err (Err e) P h = h

-- a read after others that have given nothing
pub ReadConsumes-kept : {E : Type 0} (k₀ k₁ k₂ : Option (List ℕ)) (r : Result ℕ E) (buf : List ℕ)
    → Keeps k₀ k₁ → ReadConsumes k₁ k₂ r buf → ReadConsumes k₀ k₂ r buf
ReadConsumes-kept None k₁ k₂ (Ok n) buf kept reads = (tt, reads.1)
ReadConsumes-kept (Some xs) None k₂ (Ok n) buf kept reads = absurd kept
ReadConsumes-kept (Some xs) (Some ys) None (Ok n) buf kept reads = absurd reads.0
ReadConsumes-kept (Some xs) (Some ys) (Some zs) (Ok n) buf kept reads =
    (sym kept ∙ reads.0, reads.1)
ReadConsumes-kept k₀ k₁ k₂ (Err e) buf kept reads = Keeps-trans k₀ k₁ k₂ kept reads
