-- Entries whose values are seen through a function: what finds, takes out and puts them does the same.
use Rattle.std.proofs.Common.{◌≡◌, ℕ, suc, ◌-◌, Bool, true, false, List, [], ◌∷◌, map, length, take, Option, Some, None, refl, ap, ◌∙◌}
use Rattle.std.specs.Map.{keys_of, lookup, lookup_entry, remove_entry}
use Rattle.std.specs.Option.{option_map, option_map_or}
use Rattle.std.proofs.lemmas.List.{take-map}
use Rattle.lru.specs.LruCache.{lru_cache, promoted, put_entries}

module _ {K V : Type 0} (test : K → Bool) where
  -- an entry that is found, or not
  pub found_value : (es : List (K × V)) (f : K × V) → lookup_entry test es ≡ Some f → lookup test es ≡ Some f.1
  found_value [] f is = absurd (cc)
  found_value (e ∷ es) f is = (elim (test e.0) as (λ y. test e.0 ≡ y → lookup test (e ∷ es) ≡ Some f.1) [
    | true ↦ λ t. let h = rw t at is in rw t (let same : e ≡ f = cc in ap (λ (p : K × V). Some p.1) same)
    | false ↦ λ t. rw t (found_value es f (rw t at is))
  ]) refl

  pub found_none : (es : List (K × V)) → lookup_entry test es ≡ None → lookup test es ≡ None
  found_none [] none = refl
  found_none (f ∷ es) none = (elim (test f.0) as (λ y. test f.0 ≡ y → lookup test (f ∷ es) ≡ None) [
    | true ↦ λ t. let h = rw t at none in absurd (cc)
    | false ↦ λ t. rw t (found_none es (rw t at none))
  ]) refl

  pub missed : (es : List (K × V)) → lookup test es ≡ None → remove_entry test es ≡ es
  missed [] none = refl
  missed (f ∷ es) none = (elim (test f.0) as (λ y. test f.0 ≡ y → remove_entry test (f ∷ es) ≡ f ∷ es) [
    | true ↦ λ t. let h = rw t at none in absurd (cc)
    | false ↦ λ t. rw t (ap (λ (l : List (K × V)). f ∷ l) (missed es (rw t at none)))
  ]) refl

  pub fewer : (es : List (K × V)) (v : V) → lookup test es ≡ Some v → suc (length (remove_entry test es)) ≡ length es
  fewer [] v is = absurd (cc)
  fewer (e ∷ es) v is = (elim (test e.0) as (λ y. test e.0 ≡ y → suc (length (remove_entry test (e ∷ es))) ≡ length (e ∷ es)) [
    | true ↦ λ t. rw t refl
    | false ↦ λ t. rw t (ap suc (fewer es v (rw t at is)))
  ]) refl

module _ {K V W : Type 0} (g : V → W) where
  abbrev pub valued : List (K × V) → List (K × W)
  valued es = map (λ (e : K × V). (e.0, g e.1)) es

  abbrev one : K × V → K × W
  one e = (e.0, g e.1)

  module _ (test : K → Bool) where
    pub remove-valued : (es : List (K × V)) → remove_entry test (valued es) ≡ valued (remove_entry test es)
    remove-valued [] = refl
    remove-valued (f ∷ es) = (elim (test f.0) as (λ y. test f.0 ≡ y → remove_entry test (valued (f ∷ es)) ≡ valued (remove_entry test (f ∷ es))) [
      | true ↦ λ t. rw t refl
      | false ↦ λ t. rw t (ap (λ (l : List (K × W)). one f ∷ l) (remove-valued es))
    ]) refl

    pub entry-valued : (es : List (K × V)) → lookup_entry test (valued es) ≡ option_map one (lookup_entry test es)
    entry-valued [] = refl
    entry-valued (f ∷ es) = (elim (test f.0) as (λ y. test f.0 ≡ y → lookup_entry test (valued (f ∷ es)) ≡ option_map one (lookup_entry test (f ∷ es))) [
      | true ↦ λ t. rw t refl
      | false ↦ λ t. rw t (entry-valued es)
    ]) refl

    promoted_by : (es : List (K × V)) (o : Option (K × V))
        → option_map_or (λ (e : K × W). e ∷ remove_entry test (valued es)) (option_map one o) (valued es)
        ≡ valued (option_map_or (λ (e : K × V). e ∷ remove_entry test es) o es)
    promoted_by es None = refl
    promoted_by es (Some f) = ap (λ (l : List (K × W)). one f ∷ l) (remove-valued es)

    pub promoted-valued : (es : List (K × V)) → promoted test (valued es) ≡ valued (promoted test es)
    promoted-valued es =
        ap (λ (o : Option (K × W)). option_map_or (λ (e : K × W). e ∷ remove_entry test (valued es)) o (valued es)) (entry-valued es)
        ∙ promoted_by es (lookup_entry test es)

  pub keys-valued : (es : List (K × V)) → keys_of (valued es) ≡ keys_of es
  keys-valued [] = refl
  keys-valued (f ∷ es) = ap (λ (l : List K). f.0 ∷ l) (keys-valued es)

  module _ (eq : K → K → Bool) (es : List (K × V)) (cap : ℕ) (k : K) (v : V) where
    put_by : (o : Option (K × V))
        → option_map_or (λ (e : K × W). (e.0, g v) ∷ remove_entry (eq k) (valued es)) (option_map one o) ((k, g v) ∷ take (cap - 1) (valued es))
        ≡ valued (option_map_or (λ (e : K × V). (e.0, v) ∷ remove_entry (eq k) es) o ((k, v) ∷ take (cap - 1) es))
    put_by None = ap (λ (l : List (K × W)). (k, g v) ∷ l) (take-map one (cap - 1) es)
    put_by (Some f) = ap (λ (l : List (K × W)). (f.0, g v) ∷ l) (remove-valued (eq k) es)

    pub put-valued : put_entries eq (lru_cache (valued es) cap) k (g v) ≡ valued (put_entries eq (lru_cache es cap) k v)
    put-valued =
        ap (λ (o : Option (K × W)). option_map_or (λ (e : K × W). (e.0, g v) ∷ remove_entry (eq k) (valued es)) o ((k, g v) ∷ take (cap - 1) (valued es)))
        (entry-valued (eq k) es)
        ∙ put_by (lookup_entry (eq k) es)
