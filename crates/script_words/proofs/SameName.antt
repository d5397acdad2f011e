-- Names by their fields.
use Rattle.std.proofs.Common.{◌≡◌, ℕ, Bool, true, false, ◌&&◌, eqb, List, Option, Some, IsTrue, ◌↔◌, sym, ◌∙◌, ap}
use Rattle.std.proofs.lemmas.Bool.{and_parts, eqb-true, eq-eqb, false_from_ne_true}
use Rattle.std.proofs.lemmas.Slice.Eq.{bytes_eq-Decides}
use Rattle.std.specs.Str.{bytes_eq}
use Rattle.script_words.specs.declared.spelled.Name.{Name}

pub same_name : (a b : Name) → a.len ≡ b.len → a.bytes ≡ b.bytes → a ≡ b
same_name a b len bytes =
    let first : a ≡ record { len = b.len; bytes = a.bytes } = ap (λ (n : ℕ). let x : Name = record { len = n; bytes = a.bytes } in x) len in
    let second : record { len = b.len; bytes = a.bytes } ≡ b = ap (λ (l : List ℕ). let x : Name = record { len = b.len; bytes = l } in x) bytes in
    first ∙ second

-- what the test of two names says
pub name_from_test : (a b : Name) → true ≡ (eqb a.len b.len && bytes_eq a.bytes b.bytes) → a ≡ b
name_from_test a b is =
    let parts = and_parts (eqb a.len b.len) (bytes_eq a.bytes b.bytes) (sym is) in
    same_name a b (eqb-true a.len b.len parts.0) ((bytes_eq-Decides a.bytes b.bytes).0 parts.1)

both_true : (x y : Bool) → x ≡ true → y ≡ true → (x && y) ≡ true
both_true true y first second = second
both_true false y first second = first

pub test_from_name : (a b : Name) → a ≡ b → (eqb a.len b.len && bytes_eq a.bytes b.bytes) ≡ true
test_from_name a b is =
    both_true (eqb a.len b.len) (bytes_eq a.bytes b.bytes) (eq-eqb a.len b.len (ap (λ (n : Name). n.len) is))
    ((bytes_eq-Decides a.bytes b.bytes).1 (ap (λ (n : Name). n.bytes) is))

pub not_from_test : (a b : Name) → false ≡ (eqb a.len b.len && bytes_eq a.bytes b.bytes) → a ≡ b → ⊥
not_from_test a b other is =
    let both : false ≡ true = other ∙ test_from_name a b is in cc

pub test_from_other : (a b : Name) → (a ≡ b → ⊥) → (eqb a.len b.len && bytes_eq a.bytes b.bytes) ≡ false
test_from_other a b other = false_from_ne_true _ (λ is. other (name_from_test a b (sym is)))

-- whether what was found has a name
pub name_told : (own name : Name) (found : Option Name) (said : Bool) → found ≡ Some own → said ≡ (eqb own.len name.len && bytes_eq own.bytes name.bytes)
    → IsTrue said ↔ (found ≡ Some name)
name_told own name found said is test = (
  λ holds. is ∙ ap Some (name_from_test own name (sym holds ∙ test)),
  λ same.
      let one : Some own ≡ Some name = sym is ∙ same in
      let names : own ≡ name = cc one in test ∙ test_from_name own name names,
)
