-- Things that have a key and a place: at the place of each stands the least place of those that have its key.
use Rattle.std.specs.Prelude.{◌≡◌, ◌≢◌, ℕ, ◌<◌, ◌≤◌, List, length, slice_index, Contains}

-- the least place of those that have the key of x
pub record IsLeastOf {X K : Type 0} (key : X → K) (place : X → ℕ) (list : List X) (x : X) (least : ℕ) : Type 0 where
  pub one : X
  pub listed : Contains list one
  pub same : key one ≡ key x
  pub is : place one ≡ least
  pub most : (y : X) → Contains list y → key y ≡ key x → least ≤ place y

-- so the old numbers were changed
pub record Marks {X K : Type 0} (key : X → K) (place : X → ℕ) (list : List X) (old new : List ℕ) : Type 0 where
  pub wide : length new ≡ length old
  pub each : (x : X) → Contains list x → IsLeastOf key place list x (slice_index new (place x))
  pub others : (s : ℕ) → ((x : X) → Contains list x → place x ≢ s) → slice_index new s ≡ slice_index old s

-- at the places of the first n things stand those of the things with their numbers
pub record AreMarked (places numbers : List ℕ) (n : ℕ) (old new : List ℕ) : Type 0 where
  pub wide : length new ≡ length old
  pub each : (k : ℕ) → k < n → slice_index new (slice_index places k) ≡ slice_index places (slice_index numbers k)
  pub others : (s : ℕ) → ((k : ℕ) → k < n → slice_index places k ≢ s) → slice_index new s ≡ slice_index old s
