mod Patterns
