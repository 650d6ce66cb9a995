-- What statements need to know of what is around them.
use Rattle.std.specs.Prelude.{ℕ, ◌+◌, Bool, true, false}
use Rattle.elaboration.specs.declared.context.Body.{Body}
use Rattle.elaboration.specs.declared.context.Body.TheVariants.{Valued, Valueless}
use Rattle.elaboration.specs.Functions.{Functions}

-- the functions before; whose body it is; whether it is inside the body of a loop; whether it is the last of a function that is done in it, so that a `return` may
-- stand there; and how many levels of nesting are open
pub record Context : Type 0 where
  pub functions : Functions
  pub body : Body
  pub in_loop : Bool
  pub last : Bool
  pub level : ℕ

-- between the braces of `main` or of a function, which open level 1
abbrev pub at_top : Functions → Body → Context
at_top functions body = record { functions = functions; body = body; in_loop = false; last = true; level = 1 }

-- in braces or a part of an `if`, and in the body of a loop
abbrev pub deeper : Context → Context
deeper c = record c { level = c.level + 1 }

abbrev pub looping : Context → Context
looping c = record c { in_loop = true; last = false; level = c.level + 1 }

-- the body of a function
abbrev pub body_of : Bool → Body
body_of true = Valued
body_of false = Valueless
