-- SPDX-License-Identifier: Apache-2.0
use Rattle.mgrant.proofs.GrantWords.{◌≡◌, ◌<◌, ◌++◌, [], ◌∷◌, length, All, map, refl, ap, sym, subst, ◌∙◌, rules, ◌||◌, IsAllowance, IsInterned, placed}
use Rattle.mgrant.proofs.GrantWords.{mode_of, same_permit, allows_so, Permit}
use Rattle.std.specs.HashMap as hash
use Rattle.mspec.specs.Access as access
use Rattle.mgrant.proofs.Allowances.{allowance_more, within_more, placed_more}
use Rattle.mgrant.proofs.grants.Grants.with.Goals as goal

pub invariant_of-result : goal.invariant_of-result
invariant_of-result c =
    let gs = c.self.inside.list.items in
    let p : Permit = record { from = c.args.from; to = c.args.to; global = c.in_ok-globals.global } in
    let interned : IsInterned c.self.inside.globals c.args.global.items (c.in_ok-globals.globals, c.in_ok-globals.global) = c.in_ok-globals.ensures in
    let new : c.push.new.self.items ≡ gs ++ (record { permit = p; mode = c.args.mode }) ∷ [] = search rules in
    let found : c.copied.result ≡ hash.get same_permit c.self.inside.allowed p = c.copied.ensures ∙ c.get.ensures.value in
    let wider : (asked : access.Mode) → access.allows (mode_of c.wider-best.result) asked ≡ (allows_so (hash.get same_permit c.self.inside.allowed p) asked || access.allows (mode_of c.args.mode) asked) =
    λ asked. c.wider-best.ensures asked ∙ ap (λ o. allows_so o asked || access.allows (mode_of c.args.mode) asked) found in
    record {
      in_range = subst (All (λ g. g.permit.global < length c.in_ok-globals.globals)) (sym new) (within_more c.self.inside.globals _ c.args.global.items c.in_ok-globals.global interned gs c.self.invariant.in_range p refl c.args.mode);
      allowance = subst (λ es. IsAllowance es c.insert.new.self) (sym new) (allowance_more gs c.self.inside.allowed c.insert.new.self p c.args.mode c.wider-best.result c.self.invariant.allowance c.in_ok-insert.ensures.updates wider);
    }

pub returns : goal.returns
returns c =
    let gs = c.self.inside.list.items in
    let p : Permit = record { from = c.args.from; to = c.args.to; global = c.in_ok-globals.global } in
    let interned : IsInterned c.self.inside.globals c.args.global.items (c.in_ok-globals.globals, c.in_ok-globals.global) = c.in_ok-globals.ensures in
    let new : c.push.new.self.items ≡ gs ++ (record { permit = p; mode = c.args.mode }) ∷ [] = search rules in
    ap (map (placed c.in_ok-globals.globals)) new
    ∙ placed_more c.self.inside.globals c.in_ok-globals.globals c.args.global.items c.in_ok-globals.global interned gs c.self.invariant.in_range p refl c.args.mode
    ∙ ap (λ ps. ps ++ (record { from = c.args.from; to = c.args.to; global = c.args.global.items; mode = mode_of c.args.mode }) ∷ []) c.self.view_is
