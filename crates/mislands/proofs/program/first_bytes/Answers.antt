-- SPDX-License-Identifier: Apache-2.0
use Rattle.mislands.proofs.IslandWords.{◌≡◌, ◌++◌, ℕ, ◌≤◌, List, length, take, subst, ap, ◌∙◌, arith, option_map, IfSome, IfSome_then}
use Rattle.mislands.proofs.Taken.{all_taken}
use Rattle.mislands.proofs.program.first_bytes.Goals as goal

pub returns : goal.returns
returns g c =
    let bytes : List ℕ = c.read_to_end.new.buf.items in
    let left = g.I.Read.remaining c.args.input in
    let read : IfSome (option_map (take c.take.result.limit) (g.I.Read.remaining c.take.result.inner)) (λ xs. bytes ≡ c.new-bytes.result.items ++ xs) = c.in_ok-read_to_end.ensures.bytes in
    let none : IfSome (option_map (take c.take.result.limit) (g.I.Read.remaining c.take.result.inner)) (λ xs. bytes ≡ xs) =
    IfSome_then (option_map (take c.take.result.limit) (g.I.Read.remaining c.take.result.inner)) read (λ xs is. is ∙ ap (λ ys. ys ++ xs) c.new-bytes.ensures.items) in
    let some : IfSome (option_map (take 1000001) left) (λ xs. bytes ≡ xs) =
    subst (λ n. IfSome (option_map (take n) left) (λ xs. bytes ≡ xs)) c.take.ensures.limit
    (subst (λ i. IfSome (option_map (take c.take.result.limit) (g.I.Read.remaining i)) (λ xs. bytes ≡ xs)) c.take.ensures.inner none) in
    IfSome_then left (all_taken left 1000000 bytes some) (λ all is few. let short : length bytes ≤ 1000000 = omega (arith, few) in is short)
