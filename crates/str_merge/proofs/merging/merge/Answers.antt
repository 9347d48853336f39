use Rattle.std.proofs.Common.{◌≡◌, ◌<◌, ◌^◌, ℕ, List, length, map, ap, sym, subst, ◌∙◌, arith}
use Rattle.std.specs.Prelude.{All}
use Rattle.std.specs.Global.{Vec}
use Rattle.std.proofs.lemmas.List.{length-map}
use Rattle.lk_tables.specs.TablesView.{files_of}
use Rattle.link_sections.specs.Merging.{site_key, site_pieces, sites}
use Rattle.str_merge.specs.declared.cuts.Cut.{Cut}
use Rattle.str_merge.specs.declared.sites.Site.{Site as HeldSite}
use Rattle.str_merge.specs.Keys.{key_numbers, key_view, key_views}
use Rattle.str_merge.specs.Members.{AreMembers}
use Rattle.str_merge.specs.Orders.{IsFirstOf, firsts, ranks}
use Rattle.str_merge.specs.Sites.{IsIn, cut_views, site_view, site_views}
use Rattle.str_merge.specs.Small.{IsNear, IsShort}
use Rattle.str_merge.proofs.PoolOrder.{keys_numbered, ranks_within, site_numbers, site_numbers_first, count_ranks, works}
use Rattle.str_merge.proofs.SiteFacts.{held_all, held_of_files}
use Rattle.str_merge.proofs.merging.merge.Goals as goal
use Rattle.str_merge.proofs.merging.merge.Goals.{In_ok-keys, In_ok-numbers}

pub cut_sites-requires-clause-files : goal.cut_sites-requires-clause-files
cut_sites-requires-clause-files g c κs bound =
    let P : List HeldSite → Type 0 = All (λ (s : HeldSite). s.file < length (files_of c.args.tables.now)) in
    subst P (sym c.as_slice.ensures.value) (held_of_files (files_of c.args.tables.now) c.args.kept.now c.in_ok-sites.sites.items c.in_ok-sites.ensures)

pub cut_sites-requires-clause-short : goal.cut_sites-requires-clause-short
cut_sites-requires-clause-short g c κs bound =
    let files = files_of c.args.tables.now in
    let P : List HeldSite → Type 0 = All (λ (s : HeldSite). IsShort files (site_view s)) in
    subst P (sym c.as_slice.ensures.value)
    (held_all (IsShort files) (sites files c.args.kept.now) c.in_ok-sites.sites.items c.in_ok-sites.ensures c.prove_small.ensures.short)

pub keys_of-requires : goal.keys_of-requires
keys_of-requires g c =
    let P : List HeldSite → Type 0 = All (λ (s : HeldSite). s.file < length (files_of c.args.tables.now)) in
    record { files = subst P (sym c.as_slice-2.ensures.value) (held_of_files (files_of c.args.tables.now) c.args.kept.now c.in_ok-sites.sites.items c.in_ok-sites.ensures) }

-- the keys of all sections that are merged, and their numbers
keyed : (g : _) (c : In_ok-keys g) → key_views c.in_ok-keys.keys.items ≡ map (site_key (files_of c.args.tables.now)) (sites (files_of c.args.tables.now) c.args.kept.now)
keyed g c =
    let files = files_of c.args.tables.now in
    c.in_ok-keys.ensures ∙ ap (λ (l : List HeldSite). map (site_key files) (site_views l)) c.as_slice-2.ensures.value ∙ ap (map (site_key files)) c.in_ok-sites.ensures

numbered : (g : _) (c : In_ok-numbers g) → key_views c.in_ok-keys.keys.items ≡ map (site_key (files_of c.args.tables.now)) (sites (files_of c.args.tables.now) c.args.kept.now) →
    c.in_ok-numbers.numbers.items ≡ site_numbers (files_of c.args.tables.now) c.args.kept.now
numbered g c is =
    let files = files_of c.args.tables.now in
    c.in_ok-numbers.ensures ∙ ap key_numbers c.as_slice-3.ensures.value ∙ keys_numbered files (sites files c.args.kept.now) c.in_ok-keys.keys.items is

pub number_keys-requires : goal.number_keys-requires
number_keys-requires g c =
    let files = files_of c.args.tables.now in
    let few = c.prove_small.ensures.sections in
    let all_keyed = keyed g ((goal.at.number_keys-requires g c).In_ok-keys) in
    omega (
      arith,
      few,
      ap length c.as_slice-3.ensures.value,
      length-map c.in_ok-keys.keys.items key_view,
      ap length all_keyed,
      length-map (sites files c.args.kept.now) (site_key files),
    )

pub order_of-requires : goal.order_of-requires
order_of-requires g c =
    let files = files_of c.args.tables.now in
    let kept = c.args.kept.now in
    let few = c.prove_small.ensures.sections in
    let p = goal.at.order_of-requires g c in
    let all_keyed = keyed g p.In_ok-keys in
    let all_numbered : c.as_slice-4.result.now ≡ site_numbers files kept = c.as_slice-4.ensures.value ∙ numbered g p.In_ok-numbers all_keyed in
    subst IsFirstOf (sym all_numbered) (site_numbers_first files kept few)

pub members_of-requires-clause-within : goal.members_of-requires-clause-within
members_of-requires-clause-within g c =
    let files = files_of c.args.tables.now in
    let kept = c.args.kept.now in
    let p = goal.at.members_of-requires-clause-within g c in
    let all_keyed = keyed g p.In_ok-keys in
    let all_numbered : c.as_slice-4.result.now ≡ site_numbers files kept = c.as_slice-4.ensures.value ∙ numbered g p.In_ok-numbers all_keyed in
    let ranked : c.as_slice-5.result.now ≡ ranks (site_numbers files kept) = c.as_slice-5.ensures.value ∙ c.in_ok-order.ensures.ranks ∙ ap ranks all_numbered in
    let counted : c.len.result ≡ length (firsts (site_numbers files kept)) = c.len.ensures ∙ c.in_ok-order.order.firsts.ok.0 ∙ ap length (c.in_ok-order.ensures.firsts ∙ ap firsts all_numbered) in
    let P : List ℕ → Type 0 = All (λ n. n < c.len.result) in
    let Q : ℕ → Type 0 = λ m. All (λ n. n < m) (ranks (site_numbers files kept)) in
    subst P (sym ranked) (subst Q (sym counted) (ranks_within files kept))

pub members_of-requires-clause-few : goal.members_of-requires-clause-few
members_of-requires-clause-few g c =
    let files = files_of c.args.tables.now in
    let kept = c.args.kept.now in
    let few = c.prove_small.ensures.sections in
    let p = goal.at.members_of-requires-clause-few g c in
    let all_keyed = keyed g p.In_ok-keys in
    let all_numbered : c.as_slice-4.result.now ≡ site_numbers files kept = c.as_slice-4.ensures.value ∙ numbered g p.In_ok-numbers all_keyed in
    let ranked : c.as_slice-5.result.now ≡ ranks (site_numbers files kept) = c.as_slice-5.ensures.value ∙ c.in_ok-order.ensures.ranks ∙ ap ranks all_numbered in
    omega (arith, few, ap length ranked, count_ranks files kept)

pub fill-requires-clause-work : goal.fill-requires-clause-work
fill-requires-clause-work g c = λ κs bound.
    let files = files_of c.args.tables.now in
    let kept = c.args.kept.now in
    let p = goal.at.fill-requires-clause-work g c in
    let all_keyed = keyed g p.In_ok-keys in
    let all_numbered : c.as_slice-4.result.now ≡ site_numbers files kept = c.as_slice-4.ensures.value ∙ numbered g p.In_ok-numbers all_keyed in
    let ranked : c.as_slice-5.result.now ≡ ranks c.as_slice-4.result.now = c.as_slice-5.ensures.value ∙ c.in_ok-order.ensures.ranks in
    let counted : c.len.result ≡ length c.as_slice-9.result.now = c.len.ensures ∙ c.in_ok-order.order.firsts.ok.0 ∙ ap length (sym c.as_slice-9.ensures.value) in
    let In : List Cut → Type 0 = All (IsIn files) in
    let Near : List Cut → Type 0 = All IsNear in
    let P : List (Vec ℕ) → Type 0 = AreMembers c.as_slice-5.result.now c.len.result (length c.as_slice-5.result.now) in
    works _ c.as_slice-4.result.now c.as_slice-5.result.now c.len.result
    (ap site_views c.as_slice-6.ensures.value ∙ c.in_ok-sites.ensures)
    (subst In (sym c.as_slice-7.ensures.value) c.in_ok-cuts.ensures.files)
    (subst Near (sym c.as_slice-7.ensures.value) c.in_ok-cuts.ensures.near)
    (ap cut_views c.as_slice-7.ensures.value ∙ c.in_ok-cuts.ensures.pieces
    ∙ ap (λ (l : List HeldSite). map (site_pieces files) (site_views l)) c.as_slice.ensures.value ∙ ap (map (site_pieces files)) c.in_ok-sites.ensures)
    (ap key_views c.as_slice-8.ensures.value ∙ all_keyed)
    all_numbered (c.as_slice-9.ensures.value ∙ c.in_ok-order.ensures.firsts) ranked (subst P (sym c.as_slice-10.ensures.value) c.in_ok-members.ensures) counted c.prove_small.ensures

pub finish-requires-clause-work : goal.finish-requires-clause-work
finish-requires-clause-work g c =
    let files = files_of c.args.tables.now in
    let kept = c.args.kept.now in
    let p = goal.at.finish-requires-clause-work g c in
    let all_keyed = keyed g p.In_ok-keys in
    let all_numbered : c.as_slice-4.result.now ≡ site_numbers files kept = c.as_slice-4.ensures.value ∙ numbered g p.In_ok-numbers all_keyed in
    let ranked : c.as_slice-5.result.now ≡ ranks c.as_slice-4.result.now = c.as_slice-5.ensures.value ∙ c.in_ok-order.ensures.ranks in
    let counted : c.len.result ≡ length c.as_slice-9.result.now = c.len.ensures ∙ c.in_ok-order.order.firsts.ok.0 ∙ ap length (sym c.as_slice-9.ensures.value) in
    let In : List Cut → Type 0 = All (IsIn files) in
    let Near : List Cut → Type 0 = All IsNear in
    let P : List (Vec ℕ) → Type 0 = AreMembers c.as_slice-5.result.now c.len.result (length c.as_slice-5.result.now) in
    works _ c.as_slice-4.result.now c.as_slice-5.result.now c.len.result
    (ap site_views c.as_slice-6.ensures.value ∙ c.in_ok-sites.ensures)
    (subst In (sym c.as_slice-7.ensures.value) c.in_ok-cuts.ensures.files)
    (subst Near (sym c.as_slice-7.ensures.value) c.in_ok-cuts.ensures.near)
    (ap cut_views c.as_slice-7.ensures.value ∙ c.in_ok-cuts.ensures.pieces
    ∙ ap (λ (l : List HeldSite). map (site_pieces files) (site_views l)) c.as_slice.ensures.value ∙ ap (map (site_pieces files)) c.in_ok-sites.ensures)
    (ap key_views c.as_slice-8.ensures.value ∙ all_keyed)
    all_numbered (c.as_slice-9.ensures.value ∙ c.in_ok-order.ensures.firsts) ranked (subst P (sym c.as_slice-10.ensures.value) c.in_ok-members.ensures) counted c.prove_small.ensures
