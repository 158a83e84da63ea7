-- What an access moves of the data register.
use Rattle.std.specs.Prelude.{Bool, true, false}
use Rattle.state.specs.declared.Width.{Width}
use Rattle.state.specs.declared.Width.TheVariants as width

-- does it move two bytes
abbrev pub wide : Width → Bool
wide width.Byte = false
wide width.Word = true
