-- Which classes have items, one item after the other.
use Rattle.std.proofs.Common.{◌≡◌, ℕ, ◌+◌, ◌<◌, ◌≤◌, ◌||◌, Bool, true, false, List, ◌∷◌, length, get_or, drop, refl, sym, ap, ◌∙◌}
use Rattle.std.specs.List.{list_any}
use Rattle.std.proofs.lemmas.List.{drop_all, drop_more}
use Rattle.lk_tables.specs.declared.classes.Class.{Class}
use Rattle.lk_tables.specs.declared.classes.Class.TheVariants.{R, Rx, TlsBits, TlsNobits, RwBits, RwNobits}
use Rattle.output_sections.specs.declared.items.Item.{Item}
use Rattle.output_sections.specs.declared.present.Present.{Present}
use Rattle.output_sections.specs.Present.{ArePresent, has, is_item_of}

-- what holds of each of the six
pub each_class : (P : Class → Type 0) → P R → P Rx → P TlsBits → P TlsNobits → P RwBits → P RwNobits → (class : Class) → P class
each_class P r rx tb tn rb rn R = r
each_class P r rx tb tn rb rn Rx = rx
each_class P r rx tb tn rb rn TlsBits = tb
each_class P r rx tb tn rb rn TlsNobits = tn
each_class P r rx tb tn rb rn RwBits = rb
each_class P r rx tb tn rb rn RwNobits = rn

or_assoc : (a b c : Bool) → ((a || b) || c) ≡ (a || (b || c))
or_assoc true b c = refl
or_assoc false b c = refl

or_none : (a : Bool) → (a || false) ≡ a
or_none true = refl
or_none false = refl

-- what was met, and what is left, are all
abbrev pub AreMet : List Item → (i : ℕ) → Present → Type 0
AreMet items i p = (class : Class) → (has p class || list_any (is_item_of class) (drop i items)) ≡ list_any (is_item_of class) items

pub met_next : (items : List Item) (i : ℕ) (d : Item) (old new : Present) → i < length items →
    new.r ≡ (old.r || is_item_of R (get_or items i d)) → new.rx ≡ (old.rx || is_item_of Rx (get_or items i d)) →
    new.tls_bits ≡ (old.tls_bits || is_item_of TlsBits (get_or items i d)) → new.tls_nobits ≡ (old.tls_nobits || is_item_of TlsNobits (get_or items i d)) →
    new.rw_bits ≡ (old.rw_bits || is_item_of RwBits (get_or items i d)) → new.rw_nobits ≡ (old.rw_nobits || is_item_of RwNobits (get_or items i d)) →
    AreMet items i old → AreMet items (i + 1) new
met_next items i d old new lt r rx tb tn rb rn met = λ class.
    let x = get_or items i d in
    let step = each_class (λ k. has new k ≡ (has old k || is_item_of k x)) r rx tb tn rb rn in
    let rest = list_any (is_item_of class) (drop (i + 1) items) in
    ap (λ b. b || rest) (step class) ∙ or_assoc (has old class) (is_item_of class x) rest
    ∙ ap (λ l. has old class || list_any (is_item_of class) l) (sym (drop_more items i d lt)) ∙ met class

pub met_all : (items : List Item) (i : ℕ) (p : Present) → length items ≤ i → AreMet items i p → ArePresent items p
met_all items i p past met = λ class.
    sym (or_none (has p class)) ∙ ap (λ l. has p class || list_any (is_item_of class) l) (sym (drop_all i items past)) ∙ met class
