-- The calls and the cuts of a link, by the tables in which calls are found.
use Rattle.std.specs.Prelude.{◌≡◌, ℕ, ◌-◌, Bool, List, flat_map, map, Result, IfOk}
use Rattle.std.specs.Global.{Vec}
use Rattle.std.specs.List.{range_with_len}
use Rattle.std.specs.declared.ops.Range.{Range}
use Rattle.lk_base.specs.declared.defects.LinkStop.{LinkStop}
use Rattle.lk_tables.specs.BindingView.{binding_view}
use Rattle.lk_tables.specs.TablesView.{files_of}
use Rattle.link_sections.specs.Cuts.{Cut}
use Rattle.link_sections.specs.PoolViews.{merged_views}
use Rattle.relax.specs.declared.calls.Call.{Call}
use Rattle.relax.specs.declared.calls.Scene.{Scene}
use Rattle.relax.specs.CallSizes.{all_cuts, call_rows, calls_of, least_sizes}

abbrev pub rows_in : Scene → (on : Bool) → List (List Call)
rows_in s on = call_rows (files_of s.tables.now) (binding_view s.binding.now) (merged_views s.pools.now) s.leaders.now s.members.now on

abbrev pub cuts_in : Scene → (on : Bool) → List (List Cut)
cuts_in s on = all_cuts (files_of s.tables.now) s.members.now (rows_in s on) (least_sizes s.members.now (rows_in s on))

-- the calls of a run of members, member by member
abbrev pub calls_between : Scene → (on : Bool) → (start end : ℕ) → List (List Call)
calls_between s on a b = map (calls_of (files_of s.tables.now) (binding_view s.binding.now) (merged_views s.pools.now) s.leaders.now s.members.now on) (range_with_len a (b - a))

-- what is made for a piece of the members: their calls, in parts
abbrev pub IsCallPart : Scene → (on : Bool) → Range ℕ → Result (Vec (List (List Call))) LinkStop → Type 0
IsCallPart s on piece r = IfOk r (λ parts. flat_map (λ part. part) parts.items ≡ calls_between s on piece.start piece.end)
