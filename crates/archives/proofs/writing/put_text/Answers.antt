-- `put_text` meets its contract: one law for each return (WritingLaws: put_text_laws).
use Rattle.archives.proofs.WritingLaws.{put_text_laws}
use Rattle.archives.proofs.writing.put_text.Goals as goal

pub returns-then-back : goal.returns-then-back
returns-then-back c = search put_text_laws

pub returns : goal.returns
returns c = search put_text_laws
