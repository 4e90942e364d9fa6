mod ScriptCopying
mod FirstModules
mod FirstHandles
mod FirstCygheap
mod FirstWords
mod FirstProcesses
mod FirstObjects
