-- SPDX-License-Identifier: Apache-2.0
use Rattle.mgrant.proofs.GrantWords.{◌≡◌, ◌-◌, ◌≤◌, true, false, length, take, drop, sym, subst, arith, length-drop, rules, nat_lt, nat_le, take_all}
use Rattle.mgrant.proofs.GrantWords.{IsPartitionPoint, IsPartitionPoint-from_clause, IsPartitionedBy-ltb, IsPartitionedBy-leb, IsNonDecreasingBy-take}
use Rattle.mgrant.proofs.GrantWords.{IsNonDecreasingBy-drop, IsRun, Edge}
use Rattle.mgrant.proofs.Marks.{run_is}

pub returns : Rattle.mgrant.proofs.flow.steps_from.Goals.returns
returns c =
    let es = c.args.edges.now in
    let place = c.args.place in
    let first = c.partition_point-first.result in
    let count = c.partition_point-count.result in
    let rest = take (length es - first) (drop first es) in
    let whole : rest ≡ drop first es = take_all (length es - first) (drop first es) (omega (arith, length-drop first es)) in
    let below = IsPartitionPoint-from_clause (λ (e : Edge). nat_lt e.source place) es first c.partition_point-first.ensures.partitioned (IsPartitionedBy-ltb (λ (e : Edge). e.source) es place c.requires) (λ a r f called. search rules) in
    let upto = IsPartitionPoint-from_clause (λ (e : Edge). nat_le e.source place) rest count c.partition_point-count.ensures.partitioned
    (IsPartitionedBy-leb (λ (e : Edge). e.source) rest place (IsNonDecreasingBy-take (λ (e : Edge). e.source) (length es - first) (drop first es) (IsNonDecreasingBy-drop (λ (e : Edge). e.source) first es c.requires))) (λ a r f called. search rules) in
    let high : count ≤ length (drop first es) = subst (λ r. count ≤ length r) whole c.partition_point-count.ensures.bound in
    subst (λ r. IsRun es place (take count r)) (sym whole)
    (run_is es place first count c.partition_point-first.ensures.bound high below (subst (λ r. IsPartitionPoint (λ (e : Edge). nat_le e.source place ≡ true) (λ (e : Edge). nat_le e.source place ≡ false) r count) whole upto))
