-- What std's `any` answers, in the word for it that the definitions have. Assumes nothing.
use Rattle.std.proofs.Common.{◌≡◌, Bool, List, [], ◌∷◌, ◌||◌, refl, ap}
use Rattle.std.specs.List.{list_any}
use Rattle.base.specs.Lists.{any}

pub any_of_std : {A : Type 0} (p : A → Bool) (l : List A) → list_any p l ≡ any p l
any_of_std p [] = refl
any_of_std p (x ∷ l) = ap (λ (b : Bool). p x || b) (any_of_std p l)
