-- SPDX-License-Identifier: Apache-2.0
use Rattle.mkey.proofs.KeyWords.{◌≡◌, [], ◌∷◌, ◌++◌, ◌+◌, ◌≤◌, ◌∙◌, ap, append_assoc, arith, rules, length, vec_len, vec_capacity, to_z-of_z, raised}
use Rattle.mkey.proofs.KeyWords.{number_bytes, w128, SFits}
use Rattle.mkey.proofs.NumberBytes.{bytes_of_number}
use Rattle.mkey.proofs.Pushes.{put_where_room}
use Rattle.mkey.proofs.encoding.push_number.Goals as goal

pub returns : goal.returns
returns c =
    let old = c.args.out.now.items in
    let tagged = c.push_reserved.new.self.items in
    let fits : SFits w128 c.args.units = search rules in
    let is : c.raise.result ≡ raised c.args.units = c.raise.ensures ∙ ap raised (to_z-of_z w128 c.args.units fits) in
    let bytes : c.to_be_bytes-bytes.result ≡ number_bytes c.args.units = c.to_be_bytes-bytes.ensures ∙ bytes_of_number c.args.units c.raise.result is c.raise.type_inv in
    let room : vec_len c.push_reserved.new.self + length c.to_be_bytes-bytes.result ≤ vec_capacity c.push_reserved.new.self = omega (arith, c.requires.room, ap length c.to_be_bytes-bytes.ensures, c.push_reserved.ensures.len, c.push_reserved.ensures.capacity) in
    put_where_room c.extend_from_slice-put.result c.extend_from_slice-put.new.self.items tagged c.to_be_bytes-bytes.result c.extend_from_slice-put.ensures.items (c.extend_from_slice-put.ensures.succeeds room)
    ∙ ap (λ b. tagged ++ b) bytes
    ∙ ap (λ b. b ++ number_bytes c.args.units) c.push_reserved.ensures.items
    ∙ append_assoc old (1 ∷ []) (number_bytes c.args.units)
