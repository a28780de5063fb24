-- SPDX-License-Identifier: Apache-2.0
-- From one line of a routine to the next.
use Rattle.mglobal.proofs.LinesKept.{line_at_place}
use Rattle.mglobal.proofs.GlobalWords.{◌≡◌, ◌<◌, Bool, true, false, cond, ◌&&◌, List, [], ◌∷◌, ◌++◌, map, length, drop, All, Option, Some, None, is_some, refl}
use Rattle.mglobal.proofs.GlobalWords.{sym, ap, subst, ◌∙◌, arith, option_and_then, if◌then◌else◌, codes, T, slice_get, bytes_decides, nat_list_cmp_total}
use Rattle.mglobal.proofs.GlobalWords.{entries, get-entries, entries_sorted, find, filter, option_to_list, is_lt, is_eq, ordering_then, Ordering, Less, Equal}
use Rattle.mglobal.proofs.GlobalWords.{Greater, All-head, All-tail, All-cons, All-nil, Globals, is_beside, lines_of, order_at, Text, Node, canonical_value}
use Rattle.mglobal.proofs.GlobalWords.{text_cmp, subscripts_cmp, node_cmp, significant_digits, Forward, text_eq, is_within, child_of, is_before, node_cmp_total}
use Rattle.mglobal.proofs.GlobalWords.{node_cmp_exact, text_cmp_total, passes, child_under, none_empty, at_front, both_true, joined_node, child_within}
use Rattle.mglobal.proofs.GlobalWords.{within_parts, child_is, split_within, IsHeld, AreHeld, routine_at, line_at, is_line, is_line_behind, texts_behind}
use Rattle.mglobal.proofs.GlobalWords.{lines_behind, line_in}
use Rattle.std.specs.FinMap.Entries as Entries
use Rattle.std.proofs.lemmas.Cmp.{tied_itself}
use Rattle.mglobal.proofs.Orders.{order_is}

abbrev C : Text → Text → Ordering
C = text_cmp significant_digits

abbrev order : Node → Node → Ordering
order = node_cmp significant_digits

pub less : (o : Ordering) → is_lt o ≡ true → o ≡ Less
less o h = grind arith

not_before : (x : Text) → is_before x x ≡ false
not_before x = ap is_lt (tied_itself (text_cmp_total significant_digits) x)

before_on : (x y z : Text) → is_before x y ≡ true → is_before y z ≡ true → is_before x z ≡ true
before_on x y z e f = ap is_lt ((text_cmp_total significant_digits).trans x y z (less (C x y) e) (less (C y z) f))

truth : (b : Bool) → T b → b ≡ true
truth b h = grind arith

module _ (account name : Text) where
  abbrev at : Text → Node
  at = line_at account name

  abbrev child : Node → Option Text
  child = child_under (routine_at account name)

  abbrev line : Node → Bool
  line = is_line account name

  -- ---- what stands below the routine

  record IsUnder (m : Node) (c : Text) : Type 0 where
    account_is : account ≡ m.account
    name_is : codes "ROUTINE" ≡ m.name
    more : List Text
    subscripts_is : m.subscripts ≡ name ∷ c ∷ more

  child_parts : (ys : List Text) (c : Text) → child_of (name ∷ []) ys ≡ Some c → (more : List Text) × (ys ≡ name ∷ c ∷ more)
  child_parts ys c e = by_within (is_within (name ∷ []) ys) refl e
    where
      by_rest : (d : List Text) → ys ≡ name ∷ d → slice_get d 0 ≡ Some c → (more : List Text) × (ys ≡ name ∷ c ∷ more)
      by_rest [] split e = absurd (cc)
      by_rest (s ∷ d) split e = let same : s ≡ c = cc in (d, split ∙ ap (λ q. name ∷ q ∷ d) same)

      by_within : (b : Bool) → is_within (name ∷ []) ys ≡ b → (if b then slice_get ys 1 else None) ≡ Some c → (more : List Text) × (ys ≡ name ∷ c ∷ more)
      by_within false b e = absurd (cc)
      by_within true b e = by_rest (drop 1 ys) (split_within (name ∷ []) ys b) (sym (at_front ys 1) ∙ e)

  under : (m : Node) (c : Text) → child m ≡ Some c → IsUnder m c
  under m c e = by_beside (is_beside (routine_at account name) m) refl e
    where
      by_beside : (b : Bool) → is_beside (routine_at account name) m ≡ b → (if b then child_of (name ∷ []) m.subscripts else None) ≡ Some c → IsUnder m c
      by_beside false b e = absurd (cc)
      by_beside true b e =
          let names = both_true (text_eq account m.account) (text_eq (codes "ROUTINE") m.name) b in
          let subs = child_parts m.subscripts c e in
          record { account_is = (bytes_decides account m.account).0 names.0; name_is = (bytes_decides (codes "ROUTINE") m.name).0 names.1; more = subs.0; subscripts_is = subs.1 }

  child_at : (c : Text) → child (at c) ≡ Some c
  child_at c =
      let within = joined_node (routine_at account name) (at c) (c ∷ []) refl refl refl in
      child_within (routine_at account name) (at c) within ∙ child_is (name ∷ []) (name ∷ c ∷ []) (within_parts (routine_at account name) (at c) within).1

  -- ---- the lines

  record IsLine (m : Node) : Type 0 where
    place : Text
    is : m ≡ at place

  line_parts : (m : Node) → line m ≡ true → IsLine m
  line_parts m e = grind (arith, line_at_place account name m e)

  three_true : (a b c d : Bool) → a ≡ true → b ≡ true → c ≡ true → ((a && b) && (c && d)) ≡ d
  three_true a b c d e f g = λ i. (e i && f i) && (g i && d)

  line_is : (c : Text) → line (at c) ≡ is_some (canonical_value significant_digits c)
  line_is c =
      three_true (text_eq account account) (text_eq (codes "ROUTINE") (codes "ROUTINE")) (text_eq name name) (is_some (canonical_value significant_digits c))
      ((bytes_decides account account).1 refl) ((bytes_decides (codes "ROUTINE") (codes "ROUTINE")).1 refl) ((bytes_decides name name).1 refl)

  and_no : (b : Bool) → (b && false) ≡ false
  and_no b = grind arith

  -- ---- their order

  abbrev node : List Text → Node
  node xs = record { account = account; name = codes "ROUTINE"; subscripts = xs }

  order_same : (xs ys : List Text) → order (node xs) (node ys) ≡ subscripts_cmp significant_digits xs ys
  order_same xs ys = λ i. ordering_then (tied_itself nat_list_cmp_total account i) (ordering_then (tied_itself nat_list_cmp_total (codes "ROUTINE") i) (subscripts_cmp significant_digits xs ys))

  tied : (x : Text) → C x x ≡ Equal
  tied x = tied_itself (text_cmp_total significant_digits) x

  then_equal : (o : Ordering) → ordering_then o Equal ≡ o
  then_equal o = grind arith

  order_lines : (c p : Text) → order (at c) (at p) ≡ C c p
  order_lines c p = order_same (name ∷ c ∷ []) (name ∷ p ∷ []) ∙ ap (λ o. ordering_then o (ordering_then (C c p) Equal)) (tied name) ∙ then_equal (C c p)

  order_deep : (c d : Text) (more : List Text) → order (at c) (node (name ∷ c ∷ d ∷ more)) ≡ Less
  order_deep c d more = order_same (name ∷ c ∷ []) (name ∷ c ∷ d ∷ more) ∙ (λ i. ordering_then (tied name i) (ordering_then (tied c i) Less))

  abbrev Above : Text → List (Node × Text) → Type 0
  Above c = All (λ e. order (at c) e.0 ≡ Less)

  above_each : (n : Node) (es : List (Node × Text)) → Entries.below_all order n es ≡ true → All (λ e. order n e.0 ≡ Less) es
  above_each n [] h = All-nil (λ e. order n e.0 ≡ Less)
  above_each n (e ∷ es) h =
      let parts = both_true (is_lt (order n e.0)) (Entries.below_all order n es) h in
      All-cons (λ e. order n e.0 ≡ Less) e es (less (order n e.0) parts.0) (above_each n es parts.1)

  above_on : (m n : Node) → order m n ≡ Less → (es : List (Node × Text)) → All (λ e. order n e.0 ≡ Less) es → All (λ e. order m e.0 ≡ Less) es
  above_on m n lt es all = λ k d inside. (node_cmp_total significant_digits).trans m n _ lt (all k d inside)

  none_at : (c : Text) (es : List (Node × Text)) → Above c es → Entries.find order (at c) es ≡ None
  none_at c [] all = refl
  none_at c (e ∷ es) all = grind (arith, All-head (λ e. order (at c) e.0 ≡ Less) e es all, none_at c es (All-tail (λ e. order (at c) e.0 ≡ Less) e es all))

  -- ---- those after a place

  abbrev texts : Text → List (Node × Text) → List Text
  texts = texts_behind account name

  behind_alike : (x c : Text) → is_before x c ≡ true → (m : Node) → order (at c) m ≡ Less → is_line_behind account name x m ≡ is_line_behind account name c m
  behind_alike x c lt m above = by_line (line m) refl
    where
      by_line : (b : Bool) → line m ≡ b → (line m && passes (is_before x) (child m)) ≡ (line m && passes (is_before c) (child m))
      by_line false e = ap (λ b. b && passes (is_before x) (child m)) e ∙ sym (ap (λ b. b && passes (is_before c) (child m)) e)
      by_line true e =
          let it = line_parts m e in
          let child_is : child m ≡ Some it.place = ap child it.is ∙ child_at it.place in
          let after : is_before c it.place ≡ true = ap is_lt (sym (order_lines c it.place) ∙ ap (order (at c)) (sym it.is) ∙ above) in
          ap (λ o. line m && passes (is_before x) o) child_is ∙ ap (λ b. line m && b) (before_on x c it.place lt after ∙ sym after)
          ∙ sym (ap (λ o. line m && passes (is_before c) o) child_is)

  all_behind : (x c : Text) → is_before x c ≡ true → (es : List (Node × Text)) → Above c es → texts x es ≡ texts c es
  all_behind x c lt [] all = refl
  all_behind x c lt (e ∷ es) all =
      here (is_line_behind account name x e.0) (is_line_behind account name c e.0) (behind_alike x c lt e.0 (All-head (λ e. order (at c) e.0 ≡ Less) e es all))
      (all_behind x c lt es (All-tail (λ e. order (at c) e.0 ≡ Less) e es all))
    where
      here : (a b : Bool) → a ≡ b → texts x es ≡ texts c es
          → map (λ e. e.1) (cond a (e ∷ filter (λ e. is_line_behind account name x e.0) es) (filter (λ e. is_line_behind account name x e.0) es)) ≡ map (λ e. e.1) (cond b (e ∷ filter (λ e. is_line_behind account name c e.0) es) (filter (λ e. is_line_behind account name c e.0) es))
      here a b h e = grind arith

  -- ---- one step

  skipped : (x : Text) (e : Node × Text) (es : List (Node × Text)) → is_line_behind account name x e.0 ≡ false → texts x (e ∷ es) ≡ texts x es
  skipped x e es out = ap (λ b. map (λ e. e.1) (cond b (e ∷ filter (λ e. is_line_behind account name x e.0) es) (filter (λ e. is_line_behind account name x e.0) es))) out

  kept : (x : Text) (e : Node × Text) (es : List (Node × Text)) (b : Bool) → is_line_behind account name x e.0 ≡ b → texts x (e ∷ es) ≡ cond b (e.1 ∷ texts x es) (texts x es)
  kept x e es b is = grind arith

  not_behind : (x : Text) (m : Node) → passes (is_before x) (child m) ≡ false → is_line_behind account name x m ≡ false
  not_behind x m e = ap (λ b. line m && b) e ∙ and_no (line m)

  abbrev test : Text → Node → Bool
  test x m = passes (is_before x) (child m)

  abbrev first : Text → List (Node × Text) → Option Text
  first x es = option_and_then child (find (test x) (map (λ e. e.0) es))

  onward : (x : Text) (es : List (Node × Text)) (c : Text) → first x es ≡ Some c → is_before x c ≡ true
  onward x [] c e = absurd (cc)
  onward x (e ∷ es) c is = by_test (test x e.0) refl is (onward x es c)
    where
      by_test : (b : Bool) → test x e.0 ≡ b → option_and_then child (cond b (Some e.0) (find (test x) (map (λ e. e.0) es))) ≡ Some c → (first x es ≡ Some c → is_before x c ≡ true) → is_before x c ≡ true
      by_test b h e f = grind arith

  pub none_left : (x : Text) (es : List (Node × Text)) → first x es ≡ None → texts x es ≡ []
  none_left x [] is = refl
  none_left x (e ∷ es) is = by_test (test x e.0) refl is (none_left x es)
    where
      by_test : (b : Bool) → test x e.0 ≡ b → option_and_then child (cond b (Some e.0) (find (test x) (map (λ e. e.0) es))) ≡ None → (first x es ≡ None → texts x es ≡ []) → texts x (e ∷ es) ≡ []
      by_test b h e f = grind arith

  abbrev one : Text → List (Node × Text) → List Text
  one c es = if is_some (canonical_value significant_digits c) then option_to_list (Entries.find order (at c) es) else []

  -- the first entry at the place, or below it
  module _ (x c : Text) (lt : is_before x c ≡ true) (e : Node × Text) (es : List (Node × Text)) (sorted : Entries.below_all order e.0 es ≡ true) (is : child e.0 ≡ Some c) where
    past : is_line_behind account name c e.0 ≡ false
    past = not_behind c e.0 (ap (passes (is_before c)) is ∙ not_before c)

    at_first : e.0 ≡ at c → texts x (e ∷ es) ≡ one c (e ∷ es) ++ texts c (e ∷ es)
    at_first same =
        let above : Above c es = subst (λ n. All (λ e. order n e.0 ≡ Less) es) same (above_each e.0 es sorted) in
        let line_b : line e.0 ≡ is_some (canonical_value significant_digits c) = ap line same ∙ line_is c in
        let behind_b : is_line_behind account name x e.0 ≡ is_some (canonical_value significant_digits c) = (λ i. line_b i && (ap (passes (is_before x)) is ∙ lt) i) ∙ and_yes (is_some (canonical_value significant_digits c)) in
        let own : Entries.find order (at c) (e ∷ es) ≡ Some e.1 = ap (λ o. cond (is_eq o) (Some e.1) (Entries.find order (at c) es)) (ap (order (at c)) same ∙ tied_itself (node_cmp_total significant_digits) (at c)) in
        kept x e es (is_some (canonical_value significant_digits c)) behind_b
        ∙ ap (λ l. cond (is_some (canonical_value significant_digits c)) (e.1 ∷ l) l) (all_behind x c lt es above ∙ sym (skipped c e es past))
        ∙ here (is_some (canonical_value significant_digits c)) (texts c (e ∷ es))
        ∙ ap (λ o. (if is_some (canonical_value significant_digits c) then option_to_list o else []) ++ texts c (e ∷ es)) (sym own)
      where
        and_yes : (b : Bool) → (b && true) ≡ b
        and_yes b = grind arith

        here : (b : Bool) (l : List Text) → cond b (e.1 ∷ l) l ≡ (if b then option_to_list (Some e.1) else []) ++ l
        here b l = grind arith

    nothing : (b : Bool) (o : Option Text) → o ≡ None → (if b then option_to_list o else []) ≡ []
    nothing b o h = grind arith

    below_first : (d : Text) (more : List Text) → e.0 ≡ node (name ∷ c ∷ d ∷ more) → texts x (e ∷ es) ≡ one c (e ∷ es) ++ texts c (e ∷ es)
    below_first d more same =
        let before : order (at c) e.0 ≡ Less = ap (order (at c)) same ∙ order_deep c d more in
        let above : Above c (e ∷ es) = All-cons (λ e. order (at c) e.0 ≡ Less) e es before (above_on (at c) e.0 before es (above_each e.0 es sorted)) in
        all_behind x c lt (e ∷ es) above
        ∙ ap (λ l. l ++ texts c (e ∷ es)) (sym (nothing (is_some (canonical_value significant_digits c)) (Entries.find order (at c) (e ∷ es)) (none_at c (e ∷ es) above)))

    first_step : texts x (e ∷ es) ≡ one c (e ∷ es) ++ texts c (e ∷ es)
    first_step = by_more it.more it.subscripts_is
      where
        it : IsUnder e.0 c
        it = under e.0 c is

        by_more : (more : List Text) → e.0.subscripts ≡ name ∷ c ∷ more → texts x (e ∷ es) ≡ one c (e ∷ es) ++ texts c (e ∷ es)
        by_more [] subs = at_first (λ i. record { account = sym it.account_is i; name = sym it.name_is i; subscripts = subs i })
        by_more (d ∷ more) subs = below_first d more (λ i. record { account = sym it.account_is i; name = sym it.name_is i; subscripts = subs i })

  pub one_step : (es : List (Node × Text)) → Entries.is_sorted order es ≡ true → (x c : Text) → first x es ≡ Some c → texts x es ≡ one c es ++ texts c es
  one_step [] sorted x c is = absurd (cc)
  one_step (e ∷ es) sorted x c is = by_test (test x e.0) refl is (one_step es parts.1 x c)
    where
      parts : (Entries.below_all order e.0 es ≡ true) × (Entries.is_sorted order es ≡ true)
      parts = both_true (Entries.below_all order e.0 es) (Entries.is_sorted order es) sorted

      lt : is_before x c ≡ true
      lt = onward x (e ∷ es) c is

      apart : test x e.0 ≡ false → (o : Ordering) → order (at c) e.0 ≡ o → is_eq o ≡ false
      apart t Less q = refl
      apart t Greater q = refl
      apart t Equal q =
          let same : at c ≡ e.0 = node_cmp_exact significant_digits (at c) e.0 q in
          let yes : test x e.0 ≡ true = ap (test x) (sym same) ∙ ap (passes (is_before x)) (child_at c) ∙ lt in
          absurd (cc)

      later_out : (o : Option Text) → passes (is_before x) o ≡ false → passes (is_before c) o ≡ false
      later_out None t = refl
      later_out (Some p) t = by_before (is_before c p) refl
        where
          by_before : (b : Bool) → is_before c p ≡ b → is_before c p ≡ false
          by_before false q = q
          by_before true q = let yes = before_on x c p lt q in absurd (cc)

      by_test : (b : Bool) → test x e.0 ≡ b → option_and_then child (cond b (Some e.0) (find (test x) (map (λ e. e.0) es))) ≡ Some c → (first x es ≡ Some c → texts x es ≡ one c es ++ texts c es) → texts x (e ∷ es) ≡ one c (e ∷ es) ++ texts c (e ∷ es)
      by_test true t is rest = first_step x c lt e es parts.0 is
      by_test false t is rest =
          skipped x e es (not_behind x e.0 t) ∙ rest is
          ∙ (λ i. (if is_some (canonical_value significant_digits c) then option_to_list (sym (ap (λ b. cond b (Some e.1) (Entries.find order (at c) es)) (apart t (order (at c) e.0) refl)) i) else []) ++ sym (skipped c e es (not_behind c e.0 (later_out (child e.0) t))) i)

  -- ---- of globals

  module _ (g : Globals) where
    asked : (x : Text) → order_at g Forward (at x) ≡ first x (entries g)
    asked x = order_is (at x) Forward g

    pub no_more : (x : Text) → None ≡ order_at g Forward (at x) → lines_behind g account name x ≡ []
    no_more x e = none_left x (entries g) (sym (asked x) ∙ sym e)

    pub next_behind : (x c : Text) → Some c ≡ order_at g Forward (at x) → is_before x c ≡ true
    next_behind x c e = onward x (entries g) c (sym (asked x) ∙ sym e)

    pub next_line : (x c : Text) → Some c ≡ order_at g Forward (at x) → lines_behind g account name x ≡ line_in g account name c ++ lines_behind g account name c
    next_line x c e =
        one_step (entries g) (truth (Entries.is_sorted order (entries g)) (entries_sorted g)) x c (sym (asked x) ∙ sym e)
        ∙ ap (λ o. (if is_some (canonical_value significant_digits c) then option_to_list o else []) ++ lines_behind g account name c) (sym (get-entries g (at c)))

    -- after the empty text come all of them
    pub all_lines : AreHeld g → lines_behind g account name [] ≡ lines_of g account name
    all_lines held = ap (map (λ e. e.1)) (alike (entries g) held)
      where
        each : (m : Node) → All (λ s. 0 < length s) m.subscripts → is_line_behind account name [] m ≡ line m
        each m some = grind arith

        alike : (es : List (Node × Text)) → All IsHeld es → filter (λ e. is_line_behind account name [] e.0) es ≡ filter (λ e. line e.0) es
        alike [] all = refl
        alike (e ∷ es) all =
            let stored = (All-head IsHeld e es all).node in
            let rest = alike es (All-tail IsHeld e es all) in
            (λ i. cond (each e.0 (none_empty e.0 stored) i) (e ∷ rest i) (rest i))
