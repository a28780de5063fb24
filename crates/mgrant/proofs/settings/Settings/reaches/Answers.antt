-- SPDX-License-Identifier: Apache-2.0
use Rattle.mgrant.proofs.GrantWords.{◌≡◌, ◌⊎◌, inl, inr, ℕ, ◌<◌, ◌≤◌, [], All, length, refl, sym, ap, subst, ◌∙◌, arith, unwrap_or, bytes_decides, false≢true}
use Rattle.mgrant.proofs.GrantWords.{slice_get_past, Reaches, itself, Leads, settings_view, names_in, text_in}
use Rattle.mgrant.proofs.Chains.{edges_within, reached_by, led_by, empty_side, chain_at, chain_of}
use Rattle.mgrant.proofs.Seen.{length_seen, among_seen}
use Rattle.mgrant.proofs.settings.Settings.reaches.Goals as goal

pub leads-requires-clause-in_range : goal.leads-requires-clause-in_range
leads-requires-clause-in_range c =
    let names = names_in c.self.inside.accounts in
    let settings = settings_view c.self.inside.accounts c.self.inside.terminals.items c.self.inside.grants in
    subst (λ n. All (λ e. e.target < n) c.in_ok-edges.edges.items) (length_seen c.self.inside.accounts ∙ sym c.len-count.ensures) (edges_within names c.self.invariant.named c.self.inside.grants (among_seen c.self.inside.accounts c.self.inside.grants c.self.invariant.granted) c.in_ok-edges.edges.items c.in_ok-edges.ensures settings refl)

pub returns-then-eq : goal.returns-then-eq
returns-then-eq c =
    let names = names_in c.self.inside.accounts in
    let from = c.name_at.ensures ∙ ap (text_in names) c.place-start.ensures in
    let same = sym from ∙ (bytes_decides c.name_at.result.now c.name_at-2.result.now).0 (sym c.eq.ensures ∙ c.if-eq.true) ∙ c.name_at-2.ensures ∙ ap (text_in names) c.place-end.ensures in
    (λ e. chain_at c.self.inside.accounts c.self.inside.terminals.items c.self.inside.grants _ c.self.view_is c.args.from c.args.to (subst (Reaches _ (text_in names c.args.from)) same (itself (text_in names c.args.from))), λ chain. refl)

pub returns-then-start-count : goal.returns-then-start-count
returns-then-start-count c =
    let names = names_in c.self.inside.accounts in
    let from = c.name_at.ensures ∙ ap (text_in names) c.place-start.ensures in
    let to = c.name_at-2.ensures ∙ ap (text_in names) c.place-end.ensures in
    let counted = length_seen c.self.inside.accounts in
    let past : (place : ℕ) → length names ≤ place → text_in names place ≡ [] = λ place far. ap (λ o. unwrap_or o []) (slice_get_past names place far) in
    let empty : (text_in names c.args.from ≡ []) ⊎ (text_in names c.args.to ≡ []) = elim c.then-start-count.either [ inl a ↦ inl (past c.args.from (omega (arith, counted))) | inr b ↦ inr (past c.args.to (omega (arith, counted, b.1))) ] in (
      λ e. absurd (false≢true e),
      λ chain.
          let same = empty_side names c.self.invariant.named c.self.inside.grants (among_seen c.self.inside.accounts c.self.inside.grants c.self.invariant.granted) _ refl (chain_of c.self.inside.accounts c.self.inside.terminals.items c.self.inside.grants _ c.self.view_is c.args.from c.args.to chain) empty in
          absurd (false≢true (sym c.if-eq.false ∙ c.eq.ensures ∙ (bytes_decides c.name_at.result.now c.name_at-2.result.now).1 (from ∙ same ∙ sym to))),
    )

pub returns : goal.returns
returns c =
    let names = names_in c.self.inside.accounts in
    let edges = c.in_ok-edges.edges.items in
    let counted = length_seen c.self.inside.accounts in
    let low : c.args.from < length names = omega (arith, counted) in
    let high : c.args.to < length names = omega (arith, counted) in
    let told = c.in_ok-leads.ensures in (
      λ e. chain_at c.self.inside.accounts c.self.inside.terminals.items c.self.inside.grants _ c.self.view_is c.args.from c.args.to (reached_by names c.self.invariant.named c.self.inside.grants (among_seen c.self.inside.accounts c.self.inside.grants c.self.invariant.granted) edges c.in_ok-edges.ensures _ refl
          (subst (λ k. Leads edges k c.args.to) c.place-start.ensures (subst (Leads edges c.place-start.result) c.place-end.ensures (told.0 e)))),
      λ chain. told.1 (subst (λ k. Leads edges k c.place-end.result) (sym c.place-start.ensures) (subst (Leads edges c.args.from) (sym c.place-end.ensures)
          (led_by names c.self.invariant.named c.self.inside.grants (among_seen c.self.inside.accounts c.self.inside.grants c.self.invariant.granted) edges c.in_ok-edges.ensures _ refl (chain_of c.self.inside.accounts c.self.inside.terminals.items c.self.inside.grants _ c.self.view_is c.args.from c.args.to chain) c.args.from c.args.to low high refl refl))),
    )
