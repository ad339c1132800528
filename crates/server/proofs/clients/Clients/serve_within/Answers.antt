use Rattle.server.proofs.clients.Clients.serve_within.Goals as goal

pub returns-clause-acts : goal.returns-clause-acts
returns-clause-acts g c clean s stands = rw c.into_bytes.ensures at (c.reply-done.ensures.acts clean s stands)
