use Rattle.std.proofs.Common.{◌≡◌, ◌<◌, ℕ, List, Option, None, length, set, get_or, refl, sym, ap, ◌∙◌, subst, arith}
use Rattle.std.specs.Prelude.{IfSome}
use Rattle.std.specs.Vec.Iter.{into_iter_items}
use Rattle.std.proofs.lemmas.List.{length-map, length_push, map-set}
use Rattle.lk_tables.specs.declared.objects.Object.{Object}
use Rattle.lk_tables.specs.FileView.{file_view, file_views}
use Rattle.lk_tables.specs.Files.{File, file_at, no_file}
use Rattle.lk_tables.specs.Gathering.{IsBodyOf, with_object}
use Rattle.lk_tables.proofs.FirstNumbers.{file_read}
use Rattle.lk_tables.proofs.Putting.{given_all, given_here, given_more, given_within, length_put, put, put_all, put_here, put_next}
use Rattle.lk_tables.proofs.opening.put_bodies.Goals as goal
use Rattle.lk_tables.proofs.opening.put_bodies.Goals.{In-Some}

abbrev give : List File → List (Option Object) → ℕ → File
give old objects k = with_object (file_at old k) (get_or objects k None)

within : (c : In-Some) → c.loop-object.f < length (file_views c.args.files.now.items)
within c =
    let at = c.loop-object.invariant.3 in
    let few = given_within c.loop-object.yielded (into_iter_items c.loop-object.object-iterator) (into_iter_items c.next.new.self) c.args.objects.items c.in-Some.object c.loop-object.invariant.2 c.in-Some.ensures.steps.0 in
    let each = c.requires.each in
    omega arith

held : (c : In-Some) → length c.loop-object.files.items ≡ length (file_views c.args.files.now.items)
held c =
    let old = file_views c.args.files.now.items in
    let lt = within c in
    omega (arith, length-map c.loop-object.files.items file_view, ap length c.loop-object.invariant.4, length_put (give old c.args.objects.items) old c.loop-object.f (omega arith))

here : (c : In-Some) → get_or c.args.objects.items c.loop-object.f None ≡ c.in-Some.object
here c =
    ap (λ k. get_or c.args.objects.items k None) c.loop-object.invariant.3
    ∙ given_here c.loop-object.yielded (into_iter_items c.loop-object.object-iterator) (into_iter_items c.next.new.self) c.args.objects.items c.in-Some.object None c.loop-object.invariant.2 c.in-Some.ensures.steps.0

pub index_mut-requires : goal.index_mut-requires
index_mut-requires c =
    let known = (goal.at.index_mut-requires c).In-Some in
    let lt = within known in
    omega (arith, held known, c.loop-object.files.ok.0)

pub put_body-requires : goal.put_body-requires
put_body-requires c =
    let known = (goal.at.put_body-requires c).In-Some in
    let old = file_views c.args.files.now.items in
    let f = c.loop-object.f in
    let lt = within known in
    let own : file_view c.index_mut.result.now ≡ file_at old f =
    file_read c.loop-object.files.items f c.index_mut.result.now (omega (arith, held known)) c.index_mut.ensures.value
    ∙ ap (λ (l : List File). file_at l f) c.loop-object.invariant.4 ∙ put_here (give old c.args.objects.items) old f no_file lt in
    let P : Option Object → Type 0 = λ o. IfSome o (IsBodyOf (file_at old f)) in
    let Q : File → Type 0 = λ x. IfSome c.in-Some.object (IsBodyOf x) in
    subst Q (sym own) (subst P (here known) (c.requires.bodies f lt))

pub loop-object-init : goal.loop-object-init
loop-object-init c = (tt, tt, c.into_iter-object-iterator.ensures.into_iter_gives.0, refl, refl)

pub loop-object-preserved : goal.loop-object-preserved
loop-object-preserved c =
    let known = (goal.at.loop-object-preserved c).In-Some in
    let old = file_views c.args.files.now.items in
    let objects = c.args.objects.items in
    let f = c.loop-object.f in
    let at = c.loop-object.invariant.3 in
    let lt = within known in
    let own : file_view c.index_mut.result.now ≡ file_at old f =
    file_read c.loop-object.files.items f c.index_mut.result.now (omega (arith, held known)) c.index_mut.ensures.value
    ∙ ap (λ (l : List File). file_at l f) c.loop-object.invariant.4 ∙ put_here (give old objects) old f no_file lt in
    let new : file_view c.put_body.new.file ≡ give old objects f =
    c.put_body.ensures ∙ ap (λ (x : File). with_object x c.in-Some.object) own ∙ ap (with_object (file_at old f)) (sym (here known)) in (
      tt,
      tt,
      given_more c.loop-object.yielded (into_iter_items c.loop-object.object-iterator) (into_iter_items c.next.new.self) objects c.in-Some.object c.loop-object.invariant.2 c.in-Some.ensures.steps.0,
      omega (arith, length_push c.loop-object.yielded c.in-Some.object),
      map-set file_view c.loop-object.files.items f c.put_body.new.file ∙ ap (λ (l : List File). set l f (file_view c.put_body.new.file)) c.loop-object.invariant.4
          ∙ ap (set (put (give old objects) old f) f) new ∙ put_next (give old objects) old f no_file lt,
    )

pub returns : goal.returns
returns c =
    let old = file_views c.args.files.now.items in
    let none = c.in-None.ensures.steps.0 in
    let counts = c.loop-object.object-iterator.rest.ok.0 in
    let at = c.loop-object.invariant.3 in
    let each = c.requires.each in
    let all : c.loop-object.f ≡ length old = omega (arith, given_all c.loop-object.yielded (into_iter_items c.loop-object.object-iterator) c.args.objects.items c.loop-object.invariant.2 (omega arith)) in
    c.loop-object.invariant.4 ∙ put_all (give old c.args.objects.items) old c.loop-object.f all
