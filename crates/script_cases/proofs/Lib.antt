mod KnownRun
