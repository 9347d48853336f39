-- A binding as plain lists.
use Rattle.std.specs.Prelude.{ℕ, map, slice_set}
use Rattle.lk_tables.specs.declared.binding.Binding.{Binding}
use Rattle.lk_tables.specs.Binding.{Bindings}

abbrev pub binding_view : Binding → Bindings
binding_view b = record {
  discarded = b.discarded.items;
  ranks = b.ranks.items;
  entry = b.entry;
  commons = map (λ list. list.items) b.commons.items;
}

-- a binding with another rank of a symbol, by its number, or of the entry
abbrev pub with_rank : Bindings → (symbol rank : ℕ) → Bindings
with_rank b symbol rank = record { discarded = b.discarded; ranks = slice_set b.ranks symbol rank; entry = b.entry; commons = b.commons }

abbrev pub with_entry : Bindings → (rank : ℕ) → Bindings
with_entry b rank = record { discarded = b.discarded; ranks = b.ranks; entry = rank; commons = b.commons }
