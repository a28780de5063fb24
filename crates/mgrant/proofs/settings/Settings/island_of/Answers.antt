-- SPDX-License-Identifier: Apache-2.0
use Rattle.mgrant.proofs.GrantWords.{◌≡◌, ◌↔◌, ◌<◌, false, true, All, length, get_or, sym, ap, subst, ◌∙◌, ◌≤◌, arith, filter, range_with_len, Leads}
use Rattle.mgrant.proofs.GrantWords.{IsIslandAt, settings_view, names_in}
use Rattle.mspec.specs.Access as access
use Rattle.mgrant.proofs.IslandsFound.{ties_within, found_at, none_at}
use Rattle.mgrant.proofs.Seen.{length_seen, among_seen}
use Rattle.mgrant.proofs.settings.Settings.island_of.Goals as goal

pub reached-requires-clause-in_range : goal.reached-requires-clause-in_range
reached-requires-clause-in_range c =
    let accounts = c.self.inside.accounts in
    subst (λ n. All (λ e. e.target < n) c.in_ok-ties.ties.items) (length_seen accounts ∙ sym c.len-count.ensures)
    (ties_within (names_in accounts) c.self.inside.grants (among_seen accounts c.self.inside.grants c.self.invariant.granted) c.in_ok-ties.ties.items c.in_ok-ties.ensures)

pub returns-then-start-count : goal.returns-then-start-count
returns-then-start-count c =
    let accounts = c.self.inside.accounts in
    let seen = settings_view accounts c.self.inside.terminals.items c.self.inside.grants in
    let a = c.args.account in
    let past : length accounts ≤ a = omega arith in
    subst (λ s. IsIslandAt s (access.name_at s a) c.new.result.items) c.self.view_is
    (subst (IsIslandAt seen (access.name_at seen a)) (sym c.new.ensures.items) (none_at accounts c.self.inside.terminals.items c.self.inside.grants c.self.invariant a past))

pub returns : goal.returns
returns c =
    let accounts = c.self.inside.accounts in
    let edges = c.in_ok-ties.ties.items in
    let marks = c.in_ok-marks.marks.items in
    let a = c.args.account in
    let low : a < length accounts = omega arith in
    let told = c.in_ok-marks.ensures.reached in
    let len = c.in_ok-marks.ensures.len ∙ c.len-count.ensures in
    let size : length marks ≡ length accounts = omega arith in
    subst (λ s. IsIslandAt s (access.name_at s a) c.in_ok-marked.field-0.items) c.self.view_is
    (found_at accounts c.self.inside.terminals.items c.self.inside.grants c.self.invariant edges c.in_ok-ties.ensures marks a low
    (λ y. subst (λ k. (get_or marks y false ≡ true) ↔ Leads edges k y) c.place-start.ensures (told y)) size _
    (c.in_ok-marked.ensures ∙ ap (λ ms. filter (λ p. get_or ms p false) (range_with_len 0 (length ms))) c.deref.ensures.value))
