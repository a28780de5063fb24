-- SPDX-License-Identifier: Apache-2.0
-- The steps of a program where an expression stands: as `step` of the definitions has them, apart from the call of a function, which a
-- level has to be opened for, from what passes steps by, and from what changes how deep the steps are.
use Rattle.std.specs.Prelude.{ℤ, Bool, true, false, not, cond, List, [], ◌∷◌, ◌++◌, Option, Some, None, map, slice_get, unwrap_or}
use Rattle.mspec.specs.Code.{Zsyntax}
use Rattle.mspec.specs.Interpretations.{truth_text}
use Rattle.mspec.specs.LockConflict.{LockName}
use Rattle.mspec.specs.Scopes.{Binding, valued}
use Rattle.mspec.specs.Act.{Text, Act, ◌>>=◌, ◌>>◌, give, fail, charge, write_formats, test_is}
use Rattle.mgrammar.specs.Grammar.{SignTree, BinaryTree, ExprsTree, no_exprs}
use Rattle.mgrammar.specs.Functions.{function_of}
use Rattle.mmeaning.specs.Operators.{as_number, as_truth, unaries, binary, raising}
use Rattle.mmeaning.specs.Functions.{whole_at, call_value}
use Rattle.mmeaning.specs.Variables.{Evaluated, of_local, of_global, of_naked, Place, reading, ordering, resolve, read_at, read_or, next_at}
use Rattle.mmeaning.specs.Variables.{direction_of, added_of, incremented, named, named_lock, querying, query_at, with_more}
use Rattle.mmeaning.specs.Expression.{Inside, linked_by, matches_text, tail_value, operand_value, Depth, indirected, attached}
use Rattle.mmeaning.specs.Parameters.{handed}
use Rattle.mmeaning.specs.LineMeaning.{Prepared, whole, partial, all_prepared, targets}
use Rattle.mmeaning.specs.Programs.{Item, one_value, some_values, some_numbers, some_names, found, placed, walked, made, handing, data_at, on_top, Op}
use Rattle.mmeaning.specs.Programs.{Operand, Tail, Spend, Sign, Targets, Target, Part, Names, Name, Numbers, Number}
use Rattle.mmeaning.specs.Programs.{Join, Raise, Match, Match_not, Values, Add, Function, Begin, Actual, Hand, Hand_name, Call, Where, Formats, Prepare}
use Rattle.mmeaning.specs.Programs.{Local, Global, Naked, Extended, Named, Read, Data, Resolve, Get, Walk, Order, Tell_name, Unless, Pass, Refuse}
use Rattle.mmeaning.specs.Programs.{Increment, Seek, Query, sought, Deeper, Attach, outside}
use Rattle.mlocal.specs.Bindings.{binding_of}
use Rattle.meval.specs.Acts.{named_within}
use Rattle.meval.specs.Kept.{readable_view}
use Rattle.mnum.specs.Num.{units}
use Rattle.meval.specs.Evaluates.{depth_of}
use Rattle.meval.specs.Places.{pending_view}
use Rattle.mcommand.specs.Prepared.{prepared_view}
use Rattle.mcommand.specs.declared.items.Item as code
use Rattle.mcommand.specs.declared.items.Item.TheVariants as item

-- ---- the stack of the code

abbrev pub item_view : code.Item → Item
item_view (item.Value v) = one_value v
item_view (item.Values vs) = some_values vs.items
item_view (item.Found pending) = found (pending_view pending)
item_view (item.Placed place) = placed (readable_view place)
item_view (item.Walked walk) = walked walk
item_view (item.Sought place) = sought place
item_view (item.Made all) = made (map prepared_view all.items)
item_view (item.Handing test bs) = handing test (map binding_of bs.items)
item_view (item.Numbers ns) = some_numbers (map units ns.items)
item_view (item.Names names) = some_names names.items
item_view (item.Outside depth pending) = outside (depth_of depth) (pending_view pending)

-- the last item pushed is on top
abbrev pub items_on : List Item → List code.Item → List Item
items_on below [] = below
items_on below (i ∷ is) = items_on (item_view i ∷ below) is

abbrev pub items_view : List code.Item → List Item
items_view is = items_on [] is

-- ---- what is on top, and what is below it

abbrev pub value_on_top : List Item → Act (Text × List Item)
value_on_top (one_value v ∷ st) = give (v, st)
value_on_top st = fail Zsyntax

abbrev pub values_on_top : List Item → Act (List Text × List Item)
values_on_top (some_values vs ∷ st) = give (vs, st)
values_on_top st = fail Zsyntax

abbrev pub found_on_top : List Item → Act (Evaluated × List Item)
found_on_top (found r ∷ st) = give (r, st)
found_on_top st = fail Zsyntax

abbrev pub placed_on_top : List Item → Act (Place × List Item)
placed_on_top (placed p ∷ st) = give (p, st)
placed_on_top st = fail Zsyntax

abbrev pub walked_on_top : List Item → Act (Place × List Item)
walked_on_top (walked p ∷ st) = give (p, st)
walked_on_top st = fail Zsyntax

abbrev pub sought_on_top : List Item → Act (Place × List Item)
sought_on_top (sought p ∷ st) = give (p, st)
sought_on_top st = fail Zsyntax

abbrev pub targets_on_top : List Item → Act (List Prepared × List Item)
targets_on_top (made ps ∷ st) = give (ps, st)
targets_on_top st = fail Zsyntax

abbrev pub handing_on_top : List Item → Act ((Bool × List Binding) × List Item)
handing_on_top (handing b bs ∷ st) = give ((b, bs), st)
handing_on_top st = fail Zsyntax

abbrev pub numbers_on_top : List Item → Act (List ℤ × List Item)
numbers_on_top (some_numbers ns ∷ st) = give (ns, st)
numbers_on_top st = fail Zsyntax

abbrev pub names_on_top : List Item → Act (List LockName × List Item)
names_on_top (some_names ns ∷ st) = give (ns, st)
names_on_top st = fail Zsyntax

abbrev pub outside_on_top : List Item → Act ((Depth × Evaluated) × List Item)
outside_on_top (outside d r ∷ st) = give ((d, r), st)
outside_on_top st = fail Zsyntax

-- whatever it is
abbrev pub item_on_top : List Item → Act (Item × List Item)
item_on_top (i ∷ st) = give (i, st)
item_on_top [] = fail Zsyntax

-- ---- steps

-- whether a step is the call of a function, passes steps by, or changes how deep those after it are
abbrev pub is_call : Op → Bool
is_call (Call e) = true
is_call (Unless n) = true
is_call (Pass n) = true
is_call Deeper = true
is_call Attach = true
is_call o = false

-- the stack goes on, or the argument ends
abbrev pub goes_with : Bool → List Item → Option (List Item)
goes_with goes st = cond goes (Some st) None

-- those that ask nothing of the session
abbrev pub sign_step : List SignTree → List Item → Act (Option (List Item))
sign_step signs st = do
  v ← value_on_top st
  w ← unaries signs v.0
  on_top v.1 (one_value w)

abbrev pub join_step : BinaryTree → List Item → Act (Option (List Item))
join_step b st = do
  w ← value_on_top st
  v ← value_on_top w.1
  z ← binary b v.0 w.0
  on_top v.1 (one_value z)

abbrev pub add_step : List Item → Act (Option (List Item))
add_step st = do
  v ← value_on_top st
  vs ← values_on_top v.1
  on_top vs.1 (some_values (vs.0 ++ v.0 ∷ []))

abbrev pub function_step : Text → List Item → Act (Option (List Item))
function_step word st = do
  vs ← values_on_top st
  v ← call_value word vs.0
  on_top vs.1 (one_value v)

-- one thing more that is handed over
abbrev pub handed_on_top : (Bool × List Binding) × List Item → Binding → Act (Option (List Item))
handed_on_top taken b = on_top taken.1 (handing taken.0.0 (taken.0.1 ++ b ∷ []))

abbrev pub hand_step : List Item → Act (Option (List Item))
hand_step st = do
  v ← value_on_top st
  taken ← handing_on_top v.1
  handed_on_top taken (valued v.0)

abbrev pub where_step : List Item → Act (Option (List Item))
where_step st = do
  v ← value_on_top st
  b ← as_truth v.0
  give (goes_with b v.1)

abbrev pub local_step : Text → List Item → Act (Option (List Item))
local_step name st = do
  vs ← values_on_top st
  on_top vs.1 (found (of_local name vs.0))

abbrev pub naked_step : List Item → Act (Option (List Item))
naked_step st = do
  vs ← values_on_top st
  on_top vs.1 (found (of_naked vs.0))

abbrev pub extended_step : Text → List Item → Act (Option (List Item))
extended_step name st = do
  vs ← values_on_top st
  owner ← value_on_top vs.1
  on_top owner.1 (found (of_global (record { account = owner.0; name = name; subscripts = vs.0 })))

-- a target more, and a part of a variable as one
abbrev pub target_step : List Item → Act (Option (List Item))
target_step st = do
  r ← found_on_top st
  ps ← targets_on_top r.1
  on_top ps.1 (made (ps.0 ++ whole r.0 ∷ []))

abbrev pub part_step : Text → List Item → Act (Option (List Item))
part_step word st = do
  vs ← values_on_top st
  r ← found_on_top vs.1
  ps ← targets_on_top r.1
  on_top ps.1 (made (ps.0 ++ partial (function_of word) r.0 vs.0 ∷ []))

-- a number more
abbrev pub number_step : List Item → Act (Option (List Item))
number_step st = do
  v ← value_on_top st
  ns ← numbers_on_top v.1
  n ← as_number v.0
  on_top ns.1 (some_numbers (ns.0 ++ n ∷ []))

-- the variable that the text on top names, where one text more may be entered than here
abbrev pub named_step : Inside → ExprsTree → List Item → Act (Option (List Item))
named_step i subscripts st = do
  v ← value_on_top st
  r ← named_within i subscripts v.0
  on_top v.1 (found r)

-- goes an indirection deeper, to the subscripts after what the text on top names, and how deep that is
abbrev pub deeper_step : Inside → List Item → Act (Depth × List Item)
deeper_step i st = do
  v ← value_on_top st
  r ← attached i no_exprs v.0
  give (indirected i.depth, outside i.depth r ∷ v.1)

-- the same where one text more may be entered than here
abbrev pub deeper_within : Inside → List Item → Act (Depth × List Item)
deeper_within i st = do
  v ← value_on_top st
  r ← named_within i no_exprs v.0
  give (indirected i.depth, outside i.depth r ∷ v.1)

-- comes back with these subscripts, and how deep that is
abbrev pub attach_step : List Item → Act (Depth × List Item)
attach_step st = do
  vs ← values_on_top st
  o ← outside_on_top vs.1
  give (o.0.0, found (with_more vs.0 o.0.1) ∷ o.1)

abbrev pub step_in : Inside → Op → List Item → Act (Option (List Item))
step_in i (Operand o) st = do
  v ← operand_value i o
  on_top st (one_value v)
step_in i (Tail t) st = do
  v ← value_on_top st
  w ← tail_value i v.0 t
  on_top v.1 (one_value w)
step_in i Spend st = charge >> give (Some st)
step_in i (Sign signs) st = sign_step signs st
step_in i (Join b) st = join_step b st
step_in i Raise st = do
  w ← value_on_top st
  v ← value_on_top w.1
  z ← raising v.0 w.0
  on_top v.1 (one_value z)
step_in i Match st = do
  t ← value_on_top st
  v ← value_on_top t.1
  b ← matches_text i v.0 t.0
  on_top v.1 (one_value (truth_text b))
step_in i Match_not st = do
  t ← value_on_top st
  v ← value_on_top t.1
  b ← matches_text i v.0 t.0
  on_top v.1 (one_value (truth_text (not b)))
step_in i Values st = on_top st (some_values [])
step_in i Add st = add_step st
step_in i (Function word) st = function_step word st
step_in i Begin st = do
  b ← test_is
  on_top st (handing b [])
step_in i (Actual a) st = do
  taken ← handing_on_top st
  h ← handed i a
  handed_on_top taken h
step_in i Hand st = hand_step st
step_in i Hand_name st = do
  v ← value_on_top st
  taken ← handing_on_top v.1
  h ← linked_by i v.0
  handed_on_top taken h
step_in i (Call e) st = fail Zsyntax
step_in i Where st = where_step st
step_in i (Formats run) st = write_formats run >> give (Some st)
step_in i (Prepare d) st = do
  ps ← all_prepared i [] (targets d)
  on_top st (made ps)
step_in i (Local name) st = local_step name st
step_in i (Global name) st = do
  vs ← values_on_top st
  on_top vs.1 (found (of_global (record { account = i.account; name = name; subscripts = vs.0 })))
step_in i Naked st = naked_step st
step_in i (Extended name) st = extended_step name st
step_in i (Named subscripts) st = do
  v ← value_on_top st
  r ← attached i subscripts v.0
  on_top v.1 (found r)
step_in i Read st = do
  r ← found_on_top st
  v ← resolve reading r.0 >>= read_at
  on_top r.1 (one_value v)
step_in i Data st = do
  r ← found_on_top st
  v ← resolve reading r.0 >>= data_at
  on_top r.1 (one_value v)
step_in i Resolve st = do
  r ← found_on_top st
  p ← resolve reading r.0
  on_top r.1 (placed p)
step_in i Get st = do
  vs ← values_on_top st
  p ← placed_on_top vs.1
  v ← read_or (unwrap_or (slice_get vs.0 0) []) p.0
  on_top p.1 (one_value v)
step_in i Walk st = do
  r ← found_on_top st
  p ← resolve ordering r.0
  on_top r.1 (walked p)
step_in i Order st = do
  vs ← values_on_top st
  p ← walked_on_top vs.1
  v ← direction_of (slice_get vs.0 0) >>= (λ d. next_at d p.0)
  on_top p.1 (one_value v)
step_in i Tell_name st = do
  vs ← values_on_top st
  r ← found_on_top vs.1
  v ← whole_at 0 vs.0 >>= (λ most. named i.account most r.0)
  on_top r.1 (one_value v)
step_in i Increment st = do
  vs ← values_on_top st
  r ← found_on_top vs.1
  v ← added_of (slice_get vs.0 0) >>= (λ by. incremented by r.0)
  on_top r.1 (one_value v)
step_in i Seek st = do
  r ← found_on_top st
  p ← resolve querying r.0
  on_top r.1 (sought p)
step_in i Query st = do
  vs ← values_on_top st
  p ← sought_on_top vs.1
  v ← direction_of (slice_get vs.0 0) >>= (λ d. query_at i.account d p.0)
  on_top p.1 (one_value v)
step_in i Targets st = on_top st (made [])
step_in i Target st = target_step st
step_in i (Part word) st = part_step word st
step_in i Names st = on_top st (some_names [])
step_in i Name st = do
  r ← found_on_top st
  ns ← names_on_top r.1
  n ← named_lock i.account r.0
  on_top ns.1 (some_names (ns.0 ++ n ∷ []))
step_in i Numbers st = on_top st (some_numbers [])
step_in i Number st = number_step st
step_in i (Unless n) st = fail Zsyntax
step_in i (Pass n) st = fail Zsyntax
step_in i Deeper st = fail Zsyntax
step_in i Attach st = fail Zsyntax
step_in i (Refuse c) st = fail c
