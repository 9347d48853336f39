use Rattle.std.proofs.Common.{◌<◌, ◌∙◌, ◌++◌, ◌∷◌, [], ℕ, List, ap, sym, arith, length, map}
use Rattle.std.specs.Global.{Global, Vec}
use Rattle.std.specs.Prelude.{string_bytes, String}
use Rattle.std.specs.Vec.Iter.{into_iter_items}
use Rattle.std.proofs.lemmas.List.{length_push, map-append}
use Rattle.work_split.proofs.Sharing.{taken_more}
use Rattle.lk_tables.proofs.Putting.{given_within}
use Rattle.link_passes.proofs.Gathered.{map_pushed, take_pushed}
use Rattle.link_passes.proofs.inputs.inputs_of.Goals as goal

abbrev name_of : String Global × Vec ℕ → List ℕ
name_of file = string_bytes file.0

abbrev bytes_of : String Global × Vec ℕ → List ℕ
bytes_of file = file.1.items

pub loop-bytes-preserved : goal.loop-bytes-preserved
loop-bytes-preserved c =
    let before = c.loop-bytes.invariant in
    let next = c.in-Some.ensures.steps.0 in
    let at = c.loop-bytes.at in
    let taken = given_within c.loop-bytes.yielded (into_iter_items c.loop-bytes.bytes-iterator) (into_iter_items c.next.new.self) c.args.contents.items c.in-Some.bytes before.2 next in
    let lt : at < length c.args.names.now = omega (arith, taken, before.3, c.requires) in (
      tt,
      tt,
      taken_more c.loop-bytes.yielded (into_iter_items c.loop-bytes.bytes-iterator) (into_iter_items c.next.new.self) c.args.contents.items c.in-Some.bytes before.2 next,
      omega (arith, before.3, length_push c.loop-bytes.yielded c.in-Some.bytes),
      take_pushed string_bytes c.args.names.now at c.index-names-at.result [] (map name_of c.loop-bytes.files.items) (map name_of c.push.new.self.items) lt before.4
          (map_pushed name_of c.loop-bytes.files.items c.push.new.self.items _ c.in_ok-push.ensures.items
          ∙ ap (λ (b : List ℕ). map name_of c.loop-bytes.files.items ++ b ∷ []) (c.in_ok-copy_of.ensures ∙ ap string_bytes c.index-names-at.is)),
      map_pushed bytes_of c.loop-bytes.files.items c.push.new.self.items _ c.in_ok-push.ensures.items
          ∙ ap (λ (l : List (List ℕ)). l ++ c.in-Some.bytes.items ∷ []) before.5
          ∙ sym (map-append (λ (v : Vec ℕ). v.items) c.loop-bytes.yielded (c.in-Some.bytes ∷ [])),
    )
