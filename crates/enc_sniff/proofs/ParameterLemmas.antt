-- What is left of the search for a parameter at a position.
use Rattle.std.proofs.Common.{◌≡◌, ℕ, zero, suc, ◌≤◌, ◌<◌, List, length, Some, None, refl, sym, ap}
use Rattle.std.proofs.Common.{◌∙◌, arith}
use Rattle.enc_sniff.specs.HeaderTokens.{Token, next_token}
use Rattle.enc_sniff.specs.Mail.{text_after, text_or_later, parameter_within, first_parameter}

-- the parameter from this position on is that of the body
pub record TokensLeft (name body rest : List ℕ) : Type 0 where
  pub turns : ℕ
  pub enough : length rest ≤ turns
  pub same : parameter_within name turns rest ≡ first_parameter name body

-- all of it is left at the start
pub first_token : (name body : List ℕ) → TokensLeft name body body
first_token name body = record { turns = length body; enough = omega arith; same = refl }

-- the tokens after one that no parameter of this name follows
pub other_token :
    {name body rest s : List ℕ} {t : Token}
    → TokensLeft name body rest → Some (t, s) ≡ next_token rest → length s < length rest
    → text_after name t s ≡ None → TokensLeft name body s
other_token {name = name} {body = body} {rest = rest} {s = s} {t = t} left found shorter other =
    by_turns left.turns left.enough left.same
  where
    by_turns :
        (n : ℕ) → length rest ≤ n → parameter_within name n rest ≡ first_parameter name body
        → TokensLeft name body s
    by_turns zero enough same = absurd (omega arith)
    by_turns (suc n) enough same =
        let here : text_or_later name (parameter_within name n) (Some (t, s))
        ≡ parameter_within name n s = rw other refl in
        record {
          turns = n;
          enough = omega arith;
          same = sym here ∙ ap (text_or_later name (parameter_within name n)) found ∙ same;
        }

-- the parameter after a token
pub this_parameter :
    {name body rest s value : List ℕ} {t : Token}
    → TokensLeft name body rest → Some (t, s) ≡ next_token rest → length s < length rest
    → text_after name t s ≡ Some value → Some value ≡ first_parameter name body
this_parameter {name = name} {body = body} {rest = rest} {s = s} {value = value} {t = t} left found
    shorter here =
    by_turns left.turns left.enough left.same
  where
    by_turns :
        (n : ℕ) → length rest ≤ n → parameter_within name n rest ≡ first_parameter name body
        → Some value ≡ first_parameter name body
    by_turns zero enough same = absurd (omega arith)
    by_turns (suc n) enough same =
        let is_found : text_or_later name (parameter_within name n) (Some (t, s))
        ≡ Some value = rw here refl in
        sym is_found ∙ ap (text_or_later name (parameter_within name n)) found ∙ same

-- no token is left
pub no_token :
    {name body rest : List ℕ}
    → TokensLeft name body rest → None ≡ next_token rest → None ≡ first_parameter name body
no_token {name = name} {body = body} {rest = rest} left ended = by_turns left.turns left.same
  where
    by_turns :
        (n : ℕ) → parameter_within name n rest ≡ first_parameter name body
        → None ≡ first_parameter name body
    by_turns zero same = same
    by_turns (suc n) same = ap (text_or_later name (parameter_within name n)) ended ∙ same
