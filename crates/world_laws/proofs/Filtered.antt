-- What `filter_map` gives, cut at one of its elements.
use Rattle.std.proofs.Common.{◌≡◌, List, [], ◌∷◌, ◌++◌, Option, Some, None, refl, ap, ◌∙◌}
use Rattle.std.specs.List.{cons_option, filter_map}

-- the element comes of one of the list, and those before it of those before that one
pub record ComesOf {X Y : Type 0} (f : X → Option Y) (xs : List X) (before : List Y) (y : Y) : Type 0 where
  pub front : List X
  pub one : X
  pub rest : List X
  pub is : xs ≡ front ++ one ∷ rest
  pub gives : f one ≡ Some y
  pub so_far : filter_map f front ≡ before

pub one_more : {Y : Type 0} (o : Option Y) (ys : List Y) → cons_option o ys ≡ cons_option o [] ++ ys
one_more None ys = refl
one_more (Some y) ys = refl

cons_both : {Y : Type 0} (o : Option Y) (xs ys : List Y) → cons_option o (xs ++ ys) ≡ cons_option o xs ++ ys
cons_both None xs ys = refl
cons_both (Some y) xs ys = refl

pub filter_both : {X Y : Type 0} (f : X → Option Y) (xs ys : List X) → filter_map f (xs ++ ys) ≡ filter_map f xs ++ filter_map f ys
filter_both {X} {Y} f [] ys = refl
filter_both {X} {Y} f (x ∷ xs) ys = ap (λ (l : List Y). cons_option (f x) l) (filter_both f xs ys) ∙ cons_both (f x) (filter_map f xs) (filter_map f ys)

not_empty : {Y : Type 0} (before : List Y) (y : Y) (after : List Y) → [] ≡ before ++ y ∷ after → ⊥
not_empty {Y} [] y after is = absurd (cc is)
not_empty {Y} (x ∷ before) y after is = absurd (cc is)

behind_one : {X Y : Type 0} (f : X → Option Y) (x : X) (xs : List X) (o : Option Y) (before now : List Y) (y : Y) → f x ≡ o → cons_option o before ≡ now → ComesOf f xs before y → ComesOf f (x ∷ xs) now y
behind_one {X} {Y} f x xs o before now y gives all found = record {
  front = x ∷ found.front;
  one = found.one;
  rest = found.rest;
  is = ap (λ (l : List X). x ∷ l) found.is;
  gives = found.gives;
  so_far = ap (λ (p : Option Y). cons_option p (filter_map f found.front)) gives ∙ ap (λ (l : List Y). cons_option o l) found.so_far ∙ all;
}

-- by what the first one gives
first_gives : {X Y : Type 0} (f : X → Option Y) (x : X) (xs : List X) (y : Y) (after : List Y) → ((before : List Y) → filter_map f xs ≡ before ++ y ∷ after → ComesOf f xs before y)
    → (o : Option Y) (before : List Y) → f x ≡ o → cons_option o (filter_map f xs) ≡ before ++ y ∷ after → ComesOf f (x ∷ xs) before y
first_gives {X} {Y} f x xs y after later None before gives is = behind_one f x xs None before before y gives refl (later before is)
first_gives {X} {Y} f x xs y after later (Some z) [] gives is =
    let same : z ≡ y = cc is in
    record {
      front = [];
      one = x;
      rest = xs;
      is = refl;
      gives = gives ∙ ap Some same;
      so_far = refl;
    }
first_gives {X} {Y} f x xs y after later (Some z) (b ∷ before) gives is =
    let same : z ≡ b = cc is in
    let others : filter_map f xs ≡ before ++ y ∷ after = cc is in
    behind_one f x xs (Some z) before (b ∷ before) y gives (ap (λ (v : Y). v ∷ before) same) (later before others)

pub comes_of : {X Y : Type 0} (f : X → Option Y) (xs : List X) (before : List Y) (y : Y) (after : List Y) → filter_map f xs ≡ before ++ y ∷ after → ComesOf f xs before y
comes_of {X} {Y} f [] before y after is = absurd (not_empty before y after is)
comes_of {X} {Y} f (x ∷ xs) before y after is = first_gives f x xs y after (λ (b : List Y) (at : filter_map f xs ≡ b ++ y ∷ after). comes_of f xs b y after at) (f x) before refl is
