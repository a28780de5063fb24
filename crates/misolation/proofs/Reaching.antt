-- SPDX-License-Identifier: Apache-2.0
-- The computing `reachers` is the least closed set, and that of chains.
use Rattle.misolation.proofs.IsolationWords.{◌≡◌, true, ◌&&◌, List, [], ◌∷◌, ◌++◌, refl, sym, ap, ◌∙◌, subst, subst₂, ⊎_elim, or_cases, and_parts, or_left}
use Rattle.misolation.proofs.IsolationWords.{or_right, and_from, bytes_decides, list_any, Text, text_eq, Mode, Read, Write, Grant, Settings, allows, carries}
use Rattle.misolation.proofs.IsolationWords.{Reaches, itself, through, Link, link, links_by, links, leads, ReachIsLeastClosed, ReachIsChains}

-- ---- chains of links

leads_itself : (ls : List Link) (x : Text) → leads ls x x ≡ true
leads_itself [] x = (bytes_decides x x).1 refl
leads_itself (l ∷ ls) x = or_left _ _ (leads_itself ls x)

-- what leads without a link leads with it
leads_without : (l : Link) (ls : List Link) (x y : Text) → leads ls x y ≡ true → leads (l ∷ ls) x y ≡ true
leads_without l ls x y e = or_left _ _ e

leads_through : (l : Link) (ls : List Link) (x y : Text) → leads ls x l.from ≡ true → leads ls l.to y ≡ true → leads (l ∷ ls) x y ≡ true
leads_through l ls x y e f = or_right (leads ls x y) _ (and_from _ _ e f)

leads_on : (ls : List Link) (x y z : Text) → leads ls x y ≡ true → leads ls y z ≡ true → leads ls x z ≡ true
leads_on [] x y z e f = ap (λ w. text_eq w z) ((bytes_decides x y).0 e) ∙ f
leads_on (l ∷ ls) x y z e f =
    ⊎_elim
    (λ a. ⊎_elim
    (λ b. leads_without l ls x z (leads_on ls x y z a b))
    (λ b. let t = and_parts (leads ls y l.from) (leads ls l.to z) b in leads_through l ls x z (leads_on ls x y l.from a t.0) t.1)
    (or_cases (leads ls y z) _ f))
    (λ a. let s = and_parts (leads ls x l.from) (leads ls l.to y) a in ⊎_elim
    (λ b. leads_through l ls x z s.0 (leads_on ls l.to y z s.1 b))
    (λ b. let t = and_parts (leads ls y l.from) (leads ls l.to z) b in leads_through l ls x z s.0 t.1)
    (or_cases (leads ls y z) _ f))
    (or_cases (leads ls x y) _ e)

-- ---- what each link keeps

-- each link leads from what has P to where it came from
abbrev Along : (Text → Type 0) → List Link → Type 0
Along P [] = Unit {0}
Along P (l ∷ ls) = (P l.to → P l.from) × Along P ls

leads_kept : (P : Text → Type 0) (ls : List Link) → Along P ls → (x y : Text) → leads ls x y ≡ true → P y → P x
leads_kept P [] h x y e p = subst P (sym ((bytes_decides x y).0 e)) p
leads_kept P (l ∷ ls) h x y e p =
    ⊎_elim
    (λ a. leads_kept P ls h.1 x y a p)
    (λ a. let s = and_parts (leads ls x l.from) (leads ls l.to y) a in leads_kept P ls h.1 x l.from s.0 (h.0 (leads_kept P ls h.1 l.to y s.1 p)))
    (or_cases (leads ls x y) _ e)

-- ---- flow

from_giver : (g : Grant) → carries g.from g.to g ≡ true
from_giver g = or_left _ _ (and_from _ _ ((bytes_decides g.from g.from).1 refl) ((bytes_decides g.to g.to).1 refl))

from_taker : (g : Grant) → allows g.mode Write ≡ true → carries g.to g.from g ≡ true
from_taker g e = or_right (text_eq g.to g.from && text_eq g.from g.to) _ (and_from _ _ (and_from _ _ ((bytes_decides g.to g.to).1 refl) ((bytes_decides g.from g.from).1 refl)) e)

along_grant : (P : Text → Type 0) (m : Mode) (giver taker : Text) (ls : List Link) → (P taker → P giver) → (allows m Write ≡ true → P giver → P taker) → Along P ls → Along P (links_by m giver taker ++ ls)
along_grant P Read giver taker ls f g h = (f, h)
along_grant P Write giver taker ls f g h = (f, (g refl, h))

along_links : (P : Text → Type 0) (gs : List Grant) → ((x y : Text) → list_any (carries x y) gs ≡ true → P y → P x) → Along P (links gs)
along_links P [] h = tt
along_links P (g ∷ gs) h =
    along_grant P g.mode g.from g.to (links gs) (h g.from g.to (or_left _ _ (from_giver g))) (λ w. h g.to g.from (or_left _ _ (from_taker g w)))
    (along_links P gs (λ x y e. h x y (or_right (carries x y g) _ e)))

leads_past : (m : Mode) (giver taker : Text) (ls : List Link) (x y : Text) → leads ls x y ≡ true → leads (links_by m giver taker ++ ls) x y ≡ true
leads_past Read giver taker ls x y e = leads_without (link giver taker) ls x y e
leads_past Write giver taker ls x y e = leads_without (link giver taker) (link taker giver ∷ ls) x y (leads_without (link taker giver) ls x y e)

leads_forth : (m : Mode) (giver taker : Text) (ls : List Link) → leads (links_by m giver taker ++ ls) giver taker ≡ true
leads_forth Read giver taker ls = leads_through (link giver taker) ls giver taker (leads_itself ls giver) (leads_itself ls taker)
leads_forth Write giver taker ls = leads_through (link giver taker) (link taker giver ∷ ls) giver taker (leads_itself (link taker giver ∷ ls) giver) (leads_itself (link taker giver ∷ ls) taker)

leads_back : (m : Mode) (giver taker : Text) (ls : List Link) → allows m Write ≡ true → leads (links_by m giver taker ++ ls) taker giver ≡ true
leads_back Read giver taker ls e = cc
leads_back Write giver taker ls e = leads_without (link giver taker) (link taker giver ∷ ls) taker giver (leads_through (link taker giver) ls taker giver (leads_itself ls taker) (leads_itself ls giver))

carried_leads : (g : Grant) (ls : List Link) (x y : Text) → carries x y g ≡ true → leads (links_by g.mode g.from g.to ++ ls) x y ≡ true
carried_leads g ls x y e =
    ⊎_elim
    (λ a.
    let s = and_parts (text_eq x g.from) (text_eq y g.to) a in
    subst₂ (λ v w. leads (links_by g.mode g.from g.to ++ ls) v w ≡ true) (sym ((bytes_decides x g.from).0 s.0)) (sym ((bytes_decides y g.to).0 s.1)) (leads_forth g.mode g.from g.to ls))
    (λ a.
    let s = and_parts (text_eq x g.to && text_eq y g.from) (allows g.mode Write) a in
    let t = and_parts (text_eq x g.to) (text_eq y g.from) s.0 in
    subst₂ (λ v w. leads (links_by g.mode g.from g.to ++ ls) v w ≡ true) (sym ((bytes_decides x g.to).0 t.0)) (sym ((bytes_decides y g.from).0 t.1)) (leads_back g.mode g.from g.to ls s.1))
    (or_cases (text_eq x g.from && text_eq y g.to) _ e)

flow_leads : (gs : List Grant) (x y : Text) → list_any (carries x y) gs ≡ true → leads (links gs) x y ≡ true
flow_leads [] x y e = cc
flow_leads (g ∷ gs) x y e =
    ⊎_elim (carried_leads g (links gs) x y) (λ a. leads_past g.mode g.from g.to (links gs) x y (flow_leads gs x y a)) (or_cases (carries x y g) _ e)

-- ---- the laws

pub reach_is_least_closed : ReachIsLeastClosed
reach_is_least_closed settings a = record {
  has = leads_itself (links settings.grants) a;
  closed = λ x y f h. leads_on (links settings.grants) x y a (flow_leads settings.grants x y f) h;
  least = λ other closed has x e. leads_kept (λ x. other x ≡ true) (links settings.grants) (along_links (λ x. other x ≡ true) settings.grants closed) x a e has;
}

chain_leads : (settings : Settings) (x y : Text) → Reaches settings x y → leads (links settings.grants) x y ≡ true
chain_leads settings x y (itself z) = leads_itself (links settings.grants) z
chain_leads settings x y (through {y = z} f rest) = leads_on (links settings.grants) x z y (flow_leads settings.grants x z f) (chain_leads settings z y rest)

pub reach_is_chains : ReachIsChains
reach_is_chains settings a x = (
  λ e. leads_kept (λ x. Reaches settings x a) (links settings.grants) (along_links (λ x. Reaches settings x a) settings.grants (λ x y f r. through f r)) x a e (itself a),
  chain_leads settings x a,
)
