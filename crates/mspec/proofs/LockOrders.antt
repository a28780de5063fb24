-- SPDX-License-Identifier: Apache-2.0
-- The orders of names of locks and of locks are total, and in them only equal values tie.
use Rattle.mspec.proofs.SpecWords.{true, false, refl, IsTotalOrder, bool_cmp_total, IsAntisymmetric, nat_cmp-IsAntisymmetric, bool_cmp, nat_cmp_total, on_total}
use Rattle.mspec.proofs.SpecWords.{then_total, lock_name_cmp, held_cmp, significant_digits}
use Rattle.mspec.proofs.NodeOrders.{node_cmp_total, node_cmp_exact, both_Equal}

pub lock_name_cmp_total : IsTotalOrder lock_name_cmp
lock_name_cmp_total = then_total (on_total (λ n. n.global) bool_cmp_total) (on_total (λ n. n.node) (node_cmp_total significant_digits))

pub held_cmp_total : IsTotalOrder held_cmp
held_cmp_total = then_total (on_total (λ h. h.name) lock_name_cmp_total) (on_total (λ h. h.terminal) nat_cmp_total)

pub bool_cmp_exact : IsAntisymmetric bool_cmp
bool_cmp_exact true true e = refl
bool_cmp_exact true false e = absurd (cc)
bool_cmp_exact false true e = absurd (cc)
bool_cmp_exact false false e = refl

pub lock_name_cmp_exact : IsAntisymmetric lock_name_cmp
lock_name_cmp_exact a b e =
    let parts = both_Equal (bool_cmp a.global b.global) _ e in
    let global = bool_cmp_exact a.global b.global parts.0 in
    let node = node_cmp_exact significant_digits a.node b.node parts.1 in
    λ i. record { global = global i; node = node i }

pub held_cmp_exact : IsAntisymmetric held_cmp
held_cmp_exact a b e =
    let parts = both_Equal (lock_name_cmp a.name b.name) _ e in
    let name = lock_name_cmp_exact a.name b.name parts.0 in
    let terminal = nat_cmp-IsAntisymmetric a.terminal b.terminal parts.1 in
    λ i. record { terminal = terminal i; name = name i }
