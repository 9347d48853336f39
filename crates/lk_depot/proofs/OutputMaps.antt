-- How the outputs of a shelf show in its maps.
use Rattle.std.proofs.Common.{◌≡◌, ℕ, ◌+◌, ◌<◌, true, false, cond, List, [], ◌∷◌, ◌++◌, length, get_or, set, refl, sym, ◌∙◌, ap, arith, Some, None, is_some, All}
use Rattle.std.proofs.lemmas.List.{get_or_default}
use Rattle.std.specs.Option.{unwrap_or}
use Rattle.std.specs.Ordering.{nat_cmp}
use Rattle.std.specs.Cmp.Lexicographic.{slice_cmp, nat_list_cmp_total}
use Rattle.std.specs.FinMap.{get, insert, empty, contains_key, len, get-empty, len-insert}
use Rattle.lk_depot.specs.Files.{Files, content, added}
use Rattle.lk_depot.specs.Held.{Held}
use Rattle.lk_depot.specs.Overlays.{place_of, files_with, kinds_of}
use Rattle.lk_depot.specs.declared.kinds.FileKind.{FileKind}
use Rattle.lk_depot.proofs.NamedMaps.{put_there}
use Rattle.lk_depot.proofs.Overlaying.{overlaid_set, overlaid_push, get_overlaid_found, get_overlaid_none, named_found, within_found}

-- What is added to a file goes after its content.
added_some : (name prefix : List ℕ) (files : Files) → 0 < length prefix → added name prefix files ≡ insert files name (content files name ++ prefix)
unfolding added
added_some name [] files some = absurd (omega arith)
added_some name (b ∷ prefix) files some = refl

-- The output of a name, at its place.
pub record IsHeldAt (outputs : List Held) (name : List ℕ) (i : ℕ) (held : Held) : Type 0 where
  pub found : place_of (λ h. h.name) outputs name ≡ Some i
  pub here : held ≡ get_or outputs i held

pub same_output : (outputs : List Held) (name : List ℕ) (i : ℕ) (x y : Held) → IsHeldAt outputs name i x → IsHeldAt outputs name i y → x ≡ y
same_output outputs name i x y one other =
    one.here ∙ get_or_default outputs i x y (within_found (λ h. h.name) outputs name i one.found) ∙ sym other.here

-- An output that was just begun.
abbrev pub started : List ℕ → FileKind → ℕ → Held
started name kind room = record { name = name; kind = kind; bytes = []; room = room }

module _ (outputs : List Held) (inputs : Files) (name : List ℕ) where
  pub not_output : place_of (λ held. held.name) outputs name ≡ None → contains_key (kinds_of outputs) name ≡ false
  not_output none = ap is_some (get_overlaid_none (λ held. held.name) (λ held. held.kind) outputs empty name none ∙ get-empty (slice_cmp nat_cmp) name)

  module _ (i : ℕ) (held : Held) (placed : IsHeldAt outputs name i held) where
    pub kind_found : get (kinds_of outputs) name ≡ Some held.kind
    kind_found = get_overlaid_found (λ h. h.name) (λ h. h.kind) outputs empty name i held placed.found ∙ ap (λ h. Some h.kind) (sym placed.here)

    pub is_output_found : contains_key (kinds_of outputs) name ≡ true
    is_output_found = ap is_some kind_found

    pub content_found : content (files_with outputs inputs) name ≡ held.bytes
    content_found = ap (λ o. unwrap_or o []) (get_overlaid_found (λ h. h.name) (λ h. h.bytes) outputs inputs name i held placed.found) ∙ ap (λ h. h.bytes) (sym placed.here)

    name_found : held.name ≡ name
    name_found = ap (λ h. h.name) placed.here ∙ named_found (λ h. h.name) outputs name i held placed.found

    pub room_found : (room : ℕ) → All (λ h. h.room ≡ room) outputs → held.room ≡ room
    room_found room each = ap (λ h. h.room) placed.here ∙ each i held (within_found (λ h. h.name) outputs name i placed.found)

    pub files_appended : (prefix : List ℕ) → 0 < length prefix
        → files_with (set outputs i (record held { bytes = held.bytes ++ prefix })) inputs ≡ added name prefix (files_with outputs inputs)
    files_appended prefix some =
        overlaid_set (λ h. h.name) (λ h. h.bytes) outputs inputs name i _ placed.found name_found
        ∙ ap (λ before. insert (files_with outputs inputs) name (before ++ prefix)) (sym content_found)
        ∙ sym (added_some name prefix (files_with outputs inputs) some)

    pub kinds_appended : (prefix : List ℕ) → kinds_of (set outputs i (record held { bytes = held.bytes ++ prefix })) ≡ kinds_of outputs
    kinds_appended prefix =
        overlaid_set (λ h. h.name) (λ h. h.kind) outputs empty name i _ placed.found name_found ∙ put_there (kinds_of outputs) name held.kind kind_found

    pub files_begun : (kind : FileKind) (room : ℕ)
        → files_with (set outputs i (started name kind room)) inputs ≡ insert (files_with outputs inputs) name []
    files_begun kind room = overlaid_set (λ h. h.name) (λ h. h.bytes) outputs inputs name i _ placed.found refl

    pub kinds_begun : (kind : FileKind) (room : ℕ)
        → kinds_of (set outputs i (started name kind room)) ≡ insert (kinds_of outputs) name kind
    kinds_begun kind room = overlaid_set (λ h. h.name) (λ h. h.kind) outputs empty name i _ placed.found refl

    pub as_many_begun : (kind : FileKind) (room : ℕ)
        → len (kinds_of (set outputs i (started name kind room))) ≡ len (kinds_of outputs)
    as_many_begun kind room =
        ap len (kinds_begun kind room) ∙ len-insert nat_list_cmp_total (kinds_of outputs) name kind
        ∙ ap (λ b. cond b (len (kinds_of outputs)) (len (kinds_of outputs) + 1)) is_output_found

  module _ (new : place_of (λ held. held.name) outputs name ≡ None) (kind : FileKind) (room : ℕ) where
    pub files_pushed : files_with (outputs ++ started name kind room ∷ []) inputs ≡ insert (files_with outputs inputs) name []
    files_pushed = overlaid_push (λ h. h.name) (λ h. h.bytes) outputs inputs name _ new refl

    pub kinds_pushed : kinds_of (outputs ++ started name kind room ∷ []) ≡ insert (kinds_of outputs) name kind
    kinds_pushed = overlaid_push (λ h. h.name) (λ h. h.kind) outputs empty name _ new refl

    pub one_more_pushed : len (kinds_of (outputs ++ started name kind room ∷ [])) ≡ len (kinds_of outputs) + 1
    one_more_pushed =
        ap len kinds_pushed ∙ len-insert nat_list_cmp_total (kinds_of outputs) name kind
        ∙ ap (λ b. cond b (len (kinds_of outputs)) (len (kinds_of outputs) + 1)) (not_output new)
