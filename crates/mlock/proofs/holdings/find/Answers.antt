-- SPDX-License-Identifier: Apache-2.0
use Rattle.mlock.proofs.LockWords.{◌≡◌, Bool, true, false, cond, List, [], ◌∷◌, Some, ap, sym, refl, ◌∙◌, unwrap_or, lookup_key, name_eq}
use Rattle.mlock.proofs.Under.{is_same}

-- the key that is found passes the test
passes : {K X : Type 0} (test : K → Bool) (es : List (K × X)) (k : K) → Some k ≡ lookup_key test es → test k ≡ true
passes test [] k e = absurd (cc)
passes test (d ∷ es) k e = by_test (test d.0) refl e (passes test es k)
  where
    by_test : (b : Bool) → test d.0 ≡ b → Some k ≡ cond b (Some d.0) (lookup_key test es) → (Some k ≡ lookup_key test es → test k ≡ true) → test k ≡ true
    by_test true is e rest = ap test (ap (λ o. unwrap_or o k) e) ∙ is
    by_test false is e rest = rest e

pub returns : Rattle.mlock.proofs.holdings.find.Goals.returns
returns c =
    let same = is_same c.args.name.now c.in_ok-index.field-0-1.now (passes (name_eq c.args.name.now) c.args.holdings.now.entries c.in_ok-index.field-0-1.now c.in_ok-index.ensures.key) in
    c.in_ok-index.ensures.entry ∙ ap (λ k. Some (k, c.in_ok-index.holding.now)) (sym same)
