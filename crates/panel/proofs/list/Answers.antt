-- `panel::list` meets its contract: the front's contents and its place, as one answer.
use Rattle.panel.proofs.list.Goals as goal

pub returns : goal.returns
returns c i = (c.list.ensures.0 i, c.list.ensures.1 i)
