-- A function that goes by an enum's cases: at the case that was found it is what it is of the value. Every match over cases closes by this law.
-- Assumes nothing.
use mathlib.Core.Path.{◌≡◌, sym, ap}

pub at_case : {A B : Type 0} (f : A → B) {x v : A} → x ≡ v → f v ≡ f x
at_case f e = sym (ap f e)
