-- The lengths of lists of numbers, as a set for `omega`, and a rest as long as it is.
use Rattle.std.proofs.Common.{◌≡◌, ℕ, ◌+◌, ◌-◌, List, ◌++◌, arith}
use Rattle.std.proofs.lemmas.List.{take_all}
use Rattle.std.proofs.Common.{length, take, drop, min, length-append, length-drop, length-take}

pub append_length : (xs ys : List ℕ) → length (xs ++ ys) ≡ length xs + length ys
append_length xs ys = length-append xs ys

pub drop_length : (n : ℕ) (xs : List ℕ) → length (drop n xs) ≡ length xs - n
drop_length n xs = length-drop n xs

pub take_length : (n : ℕ) (xs : List ℕ) → length (take n xs) ≡ min n (length xs)
take_length n xs = length-take n xs

pub ruleset lengths = (append_length, drop_length, take_length)

-- the rest of a list, as a slice of it
pub rest_is : (at : ℕ) (xs : List ℕ) → take (length xs - at) (drop at xs) ≡ drop at xs
rest_is at xs = take_all (length xs - at) (drop at xs) (omega (arith, lengths))
