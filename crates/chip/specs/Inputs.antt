-- What a driver's request stands for in `rules`.
use Rattle.rules.specs.Registers as rules
use Rattle.state.specs.Meaning.{width_of}
use Rattle.chip.specs.declared.driver.Request.{Request}
use Rattle.chip.specs.declared.driver.Request.TheVariants.{Read, Write}

abbrev pub access_of : Request → rules.Access
access_of (Read w o) = rules.read (width_of w) o
access_of (Write w o v) = rules.write (width_of w) o v
