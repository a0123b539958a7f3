use borrow.Author.Tests.{lt-ltb, le-ltb}
use Rattle.rules.specs.Show.{digit}
use Rattle.show.proofs.digit.Goals as goal

pub returns-then-n-lt10 : goal.returns-then-n-lt10
unfolding digit
returns-then-n-lt10 c = rw (lt-ltb _ _ c.if-n-lt10.true)

pub returns-else-n-lt10 : goal.returns-else-n-lt10
unfolding digit
returns-else-n-lt10 c = rw (le-ltb _ _ c.if-n-lt10.false)
