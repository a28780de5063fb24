-- SPDX-License-Identifier: Apache-2.0
-- What globals answer, over the cut to a set of accounts that has the account asked about.
use Rattle.misolation.proofs.IsolationWords.{◌≡◌, ◌&&◌, true, map, sym, ap, ◌∙◌, is_some, and_parts, bytes_decides, get, retain_keys, keys, entries, list_any}
use Rattle.misolation.proofs.IsolationWords.{filter, Text, Node, significant_digits, node_cmp_total, node_cmp_exact, Accounts, text_eq, is_below, Direction}
use Rattle.misolation.proofs.IsolationWords.{neighbour, following, children_in, front, last, Globals, is_beside, subscripts_under, status, order_at}
use Rattle.misolation.proofs.IsolationWords.{following_at}
use Rattle.misolation.proofs.IsolationWords.{routines_of, is_line_of, lines_of}
use Rattle.misolation.proofs.CutMaps.{get_kept, keys_cut, entries_cut, filter_absorbed}

module _ (s : Accounts) where
  abbrev cut : Globals → Globals
  cut g = retain_keys g (λ n. s n.account)

  pub value_cut : (g : Globals) (n : Node) → s n.account ≡ true → get (cut g) n ≡ get g n
  value_cut g n m = get_kept (node_cmp_total significant_digits) (node_cmp_exact significant_digits) g (λ k. s k.account) n m

  -- the nodes of a global are all of its account
  beside_inside : (n k : Node) → s n.account ≡ true → is_beside n k ≡ true → s k.account ≡ true
  beside_inside n k m e = ap s (sym ((bytes_decides n.account k.account).0 (and_parts (text_eq n.account k.account) _ e).0)) ∙ m

  subscripts_cut : (g : Globals) (n : Node) → s n.account ≡ true → subscripts_under (cut g) n ≡ subscripts_under g n
  subscripts_cut g n m =
      ap (λ ks. map (λ k. k.subscripts) (filter (is_beside n) ks)) (keys_cut (node_cmp_total significant_digits) (node_cmp_exact significant_digits) g (λ k. s k.account))
      ∙ ap (map (λ k. k.subscripts)) (filter_absorbed (is_beside n) (λ k. s k.account) (λ k e. beside_inside n k m e) (keys g))

  pub status_cut : (g : Globals) (n : Node) → s n.account ≡ true → status (cut g) n ≡ status g n
  status_cut g n m = λ i. (is_some (value_cut g n m i), list_any (is_below n.subscripts) (subscripts_cut g n m i))

  pub order_cut : (g : Globals) (direction : Direction) (n : Node) → s n.account ≡ true → order_at (cut g) direction n ≡ order_at g direction n
  order_cut g direction n m = ap (λ lists. neighbour direction (last n.subscripts) (children_in lists (front n.subscripts))) (subscripts_cut g n m)

  pub following_cut : (g : Globals) (direction : Direction) (n : Node) → s n.account ≡ true → following_at (cut g) direction n ≡ following_at g direction n
  following_cut g direction n m = ap (following direction n.subscripts) (subscripts_cut g n m)

  pub lines_cut : (g : Globals) (account name : Text) → s account ≡ true → lines_of (cut g) account name ≡ lines_of g account name
  lines_cut g account name m =
      ap (λ es. map (λ e. e.1) (filter (λ e. is_beside (routines_of account) e.0 && is_line_of name e.0.subscripts) es)) (entries_cut (node_cmp_total significant_digits) (node_cmp_exact significant_digits) g (λ k. s k.account))
      ∙ ap (map (λ e. e.1)) (filter_absorbed (λ e. is_beside (routines_of account) e.0 && is_line_of name e.0.subscripts) (λ e. s e.0.account) (λ e h. beside_inside (routines_of account) e.0 m (and_parts _ _ h).0) (entries g))
