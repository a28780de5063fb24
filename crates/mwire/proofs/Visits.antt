-- SPDX-License-Identifier: Apache-2.0
-- Connections after connections.
use Rattle.mwire.proofs.WireWords.{◌≡◌, ◌++◌, ◌+◌, ℕ, List, [], ◌∷◌, length, refl, sym, ap, subst, ◌∙◌, Option, Some, Result, Err, arith, map-append}
use Rattle.mwire.proofs.WireWords.{All-append, All-cons, All-nil, Text, Settings, Seen, Ghosts, Serves, Visit, AreServed, AreOfPeers, HasServedEach, ServesEach}
use Rattle.mwire.proofs.WireWords.{WireFault, map}
use Rattle.std.proofs.lemmas.List.{append_assoc, append-nil, length-append}
use Rattle.mwire.specs.declared.fault.AcceptFault.{AcceptFault}
use Rattle.mwire.proofs.Promised.{each_promised, each_steps}

-- one batch after another
of_peers_on : (vs ws : List Visit) (waiting waiting' waiting'' answered answered' answered'' : List Text)
    → AreOfPeers vs waiting waiting' answered answered' → AreOfPeers ws waiting' waiting'' answered' answered'' → AreOfPeers (vs ++ ws) waiting waiting'' answered answered''
of_peers_on vs ws waiting waiting' waiting'' answered answered' answered'' p q = record {
  came = simp (map-append, append_assoc) (p.came ∙ ap (λ (rest : List (Option Text)). map (λ (v : Visit). v.left) vs ++ rest) q.came);
  fresh = All-append (λ (v : Visit). v.held ≡ Some []) vs ws p.fresh q.fresh;
  went = rw (q.went, p.went) (simp (map-append, append_assoc));
}

-- by settings that are the same
pub by_settings : {S : Type 0} {g : Ghosts S} {settings settings' : Settings} {count : ℕ} {world after : Seen} {tells : Type 0} {waiting waiting' answered answered' : List Text} → settings ≡ settings'
    → HasServedEach g settings count world after tells waiting waiting' answered answered' → HasServedEach g settings' count world after tells waiting waiting' answered answered'
by_settings {g = g} {count = count} {world = world} {after = after} {tells = tells} {waiting = waiting} {waiting' = waiting'} {answered = answered} {answered' = answered'} same h =
    subst (λ s. HasServedEach g s count world after tells waiting waiting' answered answered') same h

module _ {S : Type 0} (g : Ghosts S) (settings : Settings) where
  served_on : (vs ws : List Visit) (world between after : Seen) → AreServed g settings vs world between → AreServed g settings ws between after → AreServed g settings (vs ++ ws) world after
  served_on [] ws world between after s t = subst (λ (from : Seen). AreServed g settings ws from after) s t
  served_on (v ∷ vs) ws world between after s t = (s.0, s.1, served_on vs ws s.0 between after s.2 t)

  module _ (tells : Type 0) where
    -- no connection
    pub each_start : (world : Seen) (waiting waiting' answered answered' : List Text) → (tells → waiting ≡ waiting') → (tells → answered' ≡ answered)
        → HasServedEach g settings 0 world world tells waiting waiting' answered answered'
    each_start world waiting waiting' answered answered' stay kept = record {
      visits = [];
      many = refl;
      served = refl;
      of_peers = λ t. record {
        came = ap (λ (all : List Text). map Some all) (stay t);
        fresh = All-nil (λ (v : Visit). v.held ≡ Some []);
        went = ap (λ (all : List Text). map Some all) (kept t) ∙ sym (append-nil (map Some answered));
      };
      steps = each_steps g settings [] world world refl;
      promise = each_promised g settings world world [] refl;
    }

    pub each_on : (n m : ℕ) (world between after : Seen) (waiting waiting' waiting'' answered answered' answered'' : List Text)
        → HasServedEach g settings n world between tells waiting waiting' answered answered' → HasServedEach g settings m between after tells waiting' waiting'' answered' answered''
        → HasServedEach g settings (n + m) world after tells waiting waiting'' answered answered''
    each_on n m world between after waiting waiting' waiting'' answered answered' answered'' h k =
        let served : AreServed g settings (h.visits ++ k.visits) world after = served_on h.visits k.visits world between after h.served k.served in
        record {
          visits = h.visits ++ k.visits;
          many = length-append h.visits k.visits ∙ ap (λ (i : ℕ). i + length k.visits) h.many ∙ ap (λ (i : ℕ). n + i) k.many;
          served = served;
          of_peers = λ t. of_peers_on h.visits k.visits waiting waiting' waiting'' answered answered' answered'' (h.of_peers t) (k.of_peers t);
          steps = each_steps g settings (h.visits ++ k.visits) world after served;
          promise = each_promised g settings world after (h.visits ++ k.visits) served;
        }

    -- a connection that was accepted, served and closed
    pub one_served : (world after : Seen) (left left' held held' : Option Text) (result : Result (Unit {0}) WireFault) (waiting waiting' waiting'' answered answered' answered'' : List Text)
        → Serves g settings world after left left' held held' result
        → (tells → map Some waiting ≡ left ∷ map Some waiting') → (tells → waiting'' ≡ waiting') → (tells → held ≡ Some [])
        → (tells → answered' ≡ answered) → (tells → map Some answered'' ≡ map Some answered' ++ held' ∷ [])
        → HasServedEach g settings 1 world after tells waiting waiting'' answered answered''
    one_served world after left left' held held' result waiting waiting' waiting'' answered answered' answered'' s came stays fresh kept went =
        let visit : Visit = record { left = left; left' = left'; held = held; held' = held'; result = result } in
        record {
          visits = visit ∷ [];
          many = refl;
          served = (after, s, refl);
          of_peers = λ t. record {
            came = came t ∙ ap (λ (rest : List Text). left ∷ map Some rest) (sym (stays t));
            fresh = All-cons (λ (v : Visit). v.held ≡ Some []) visit [] (fresh t) (All-nil (λ (v : Visit). v.held ≡ Some []));
            went = went t ∙ ap (λ (front : List Text). map Some front ++ held' ∷ []) (kept t);
          };
          steps = each_steps g settings (visit ∷ []) world after (after, s, refl);
          promise = each_promised g settings world after (visit ∷ []) (after, s, refl);
        }

    -- none that could be accepted
    pub none_served : (world : Seen) (fault : AcceptFault) (waiting waiting' answered answered' : List Text)
        → (tells → (waiting ≡ []) × (waiting' ≡ [])) → (tells → answered' ≡ answered)
        → ServesEach g settings 1 world world tells waiting waiting' answered answered' (Err fault)
    none_served world fault waiting waiting' answered answered' nobody kept =
        (0, omega arith, λ t. (nobody t).1, each_start world waiting waiting' answered answered' (λ t. (nobody t).0 ∙ sym (nobody t).1) kept)
